-- The number of the result is the `^` of the numbers.
use Rattle.std.specs.Prelude.{bit_xor}
use Rattle.std.proofs.Common.{ℕ, ◌^◌, ◌<◌, ap, subst, sym, ◌∙◌}
use Rattle.std.proofs.lemmas.Nat.{xor_lt}
use Rattle.vob_block.proofs.NumberLemmas.{number_from_bits}
use Rattle.vob_block.proofs.PlaceLemmas.{HasPlaces-at, place-xor}
use Rattle.vob_block.proofs.word.Word.bxor.Goals as goal

pub returns : goal.returns
returns g c =
    let number = g.Self.Word.number in
    let a = c.args.self in
    let b = c.args.other in
    let within = xor_lt g.Self.Word.BITS (number a) (number b) c.in_range.ensures
    c.in_range-2.ensures in
    let same = ap (λ x. bit_xor x (g.Self.FixedWidth.bits_of b)) (g.met.Self.Word.bits_law a)
    ∙ ap (bit_xor (number a)) (g.met.Self.Word.bits_law b) in
    let is = number_from_bits number g.Self.FixedWidth.of_bits g.Self.Word.BITS
    g.met.Self.Word.of_bits_number_law c.bitxor.result _ _
    (g.met.Self.PrimInt.bitxor_law a b _ c.bitxor.ensures) same within in
    record {
      places = HasPlaces-at _ _ _ _ (sym is) (record
          { each = λ j h. place-xor (number a) (number b) j });
      within = subst (λ (n : ℕ). n < 2 ^ g.Self.Word.BITS) (sym is) within;
    }
