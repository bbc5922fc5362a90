-- The number of the result is the complement of the number.
use Rattle.std.specs.Int.{bit_not}
use Rattle.std.proofs.Common.{ℕ, ◌^◌, ◌<◌, ap, subst, sym}
use Rattle.vob_block.proofs.NumberLemmas.{number_from_bits}
use Rattle.vob_block.proofs.PlaceLemmas.{HasPlaces-at, HasPlaces-complement, complement-lt}
use Rattle.vob_block.proofs.word.Word.bnot.Goals as goal

pub returns : goal.returns
returns g c =
    let number = g.Self.Word.number in
    let w = g.Self.FixedWidth.width in
    let n = g.Self.Word.BITS in
    let a = c.args.self in
    let within = complement-lt w n (number a) g.met.Self.Word.width_law in
    let is = number_from_bits number g.Self.FixedWidth.of_bits n
    g.met.Self.Word.of_bits_number_law c.not.result _ _
    (g.met.Self.PrimInt.not_law a _ c.not.ensures)
    (ap (bit_not w) (g.met.Self.Word.bits_law a)) within in
    record {
      places = HasPlaces-at _ _ _ _ (sym is) (HasPlaces-complement w n (number a)
          g.met.Self.Word.width_law c.in_range.ensures);
      within = subst (λ (m : ℕ). m < 2 ^ n) (sym is) within;
    }
