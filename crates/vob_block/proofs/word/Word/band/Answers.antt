-- The number of the result is the `&` of the numbers.
use Rattle.std.specs.Prelude.{bit_and}
use Rattle.std.proofs.Common.{ℕ, ◌^◌, ◌<◌, ap, subst, sym, ◌∙◌, lt_of_le_of_lt}
use Rattle.std.proofs.lemmas.Nat.{and_le_l}
use Rattle.vob_block.proofs.NumberLemmas.{number_from_bits}
use Rattle.vob_block.proofs.PlaceLemmas.{HasPlaces-at, place-and}
use Rattle.vob_block.proofs.word.Word.band.Goals as goal

pub returns : goal.returns
returns g c =
    let number = g.Self.Word.number in
    let a = c.args.self in
    let b = c.args.other in
    let within = lt_of_le_of_lt (and_le_l (number a) (number b)) c.in_range.ensures in
    let same = ap (λ x. bit_and x (g.Self.FixedWidth.bits_of b)) (g.met.Self.Word.bits_law a)
    ∙ ap (bit_and (number a)) (g.met.Self.Word.bits_law b) in
    let is = number_from_bits number g.Self.FixedWidth.of_bits g.Self.Word.BITS
    g.met.Self.Word.of_bits_number_law c.bitand.result _ _
    (g.met.Self.PrimInt.bitand_law a b _ c.bitand.ensures) same within in
    record {
      places = HasPlaces-at _ _ _ _ (sym is) (record
          { each = λ j h. place-and (number a) (number b) j });
      within = subst (λ (n : ℕ). n < 2 ^ g.Self.Word.BITS) (sym is) within;
    }
