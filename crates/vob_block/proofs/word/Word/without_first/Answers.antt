-- What is left beside the number before is without the first true place.
use Rattle.std.proofs.Common.{ℕ, ◌^◌, ◌<◌, ap, subst, ◌∙◌, arith}
use Rattle.vob_block.proofs.LowestLemmas.{HasPlaces-lowest, one_less-fits, number-one_less}
use Rattle.vob_block.proofs.word.Word.without_first.Goals as goal

pub sub-less-requires : goal.sub-less-requires
sub-less-requires g c =
    let w = g.Self.Word.BITS in
    let number = g.Self.Word.number in
    let one = ap number c.ONE.ensures ∙ g.met.Self.Word.one_number_law in
    let wraps = λ (n : ℕ) (h : n < 2 ^ w). g.met.Self.FixedWidth.of_bits_law n
    (subst (λ (k : ℕ). n < 2 ^ k) g.met.Self.Word.width_law h) in
    g.met.Self.Num.can_sub_law c.args.self c.ONE.result (λ exact.
    one_less-fits w g.Self.Number.value number g.Self.Number.fits g.Self.Number.wrap
    g.Self.FixedWidth.of_bits g.met.Self.Word.number_law g.met.Self.Word.of_bits_number_law wraps
    g.met.Self.Integral.wrap_fits_law c.args.self c.ONE.result c.requires c.in_range.ensures one)

pub returns-clause-places : goal.returns-clause-places
returns-clause-places g c =
    let w = g.Self.Word.BITS in
    let number = g.Self.Word.number in
    let block = c.args.self in
    let one = ap number c.ONE.ensures ∙ g.met.Self.Word.one_number_law in
    let wraps = λ (n : ℕ) (h : n < 2 ^ w). g.met.Self.FixedWidth.of_bits_law n
    (subst (λ (k : ℕ). n < 2 ^ k) g.met.Self.Word.width_law h) in
    let fits = one_less-fits w g.Self.Number.value number g.Self.Number.fits g.Self.Number.wrap
    g.Self.FixedWidth.of_bits g.met.Self.Word.number_law g.met.Self.Word.of_bits_number_law wraps
    g.met.Self.Integral.wrap_fits_law block c.ONE.result c.requires c.in_range.ensures one in
    let less = number-one_less w g.Self.Number.value number g.Self.Number.fits g.Self.Number.wrap
    g.Self.FixedWidth.of_bits g.met.Self.Word.number_law g.met.Self.Word.of_bits_number_law wraps
    g.met.Self.Integral.wrap_fits_law block c.ONE.result c.requires c.in_range.ensures one
    c.sub-less.result (g.met.Self.Num.sub_law block c.ONE.result c.sub-less.result
    c.sub-less.ensures g.met.Self.Integral.exact_law fits) in
    λ j zeros. HasPlaces-lowest w (number block) (number c.sub-less.result)
    (number c.band.result) j (omega (arith, c.requires)) c.in_range.ensures zeros less
    c.band.ensures.places
