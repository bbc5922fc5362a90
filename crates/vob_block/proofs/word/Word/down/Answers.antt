-- The number of the result is the number shifted.
use Rattle.std.proofs.Common.{ℕ, ◌/◌, ◌^◌, ◌<◌, ap, subst, sym}
use Rattle.vob_block.proofs.NumberLemmas.{number_from_bits}
use Rattle.vob_block.proofs.PlaceLemmas.{HasPlaces-at, HasPlaces-shift_down, shift_down-lt}
use Rattle.vob_block.proofs.word.Word.down.Goals as goal

pub returns : goal.returns
returns g c =
    let number = g.Self.Word.number in
    let n = g.Self.Word.BITS in
    let a = c.args.self in
    let within = shift_down-lt n (number a) c.args.n c.in_range.ensures in
    let is = number_from_bits number g.Self.FixedWidth.of_bits n
    g.met.Self.Word.of_bits_number_law c.unsigned_shr.result _ _ c.unsigned_shr.ensures
    (ap (λ x. x / 2 ^ c.args.n) (g.met.Self.Word.bits_law a)) within in
    record {
      places = HasPlaces-at _ _ _ _ (sym is) (HasPlaces-shift_down n (number a) c.args.n
          c.in_range.ensures);
      within = subst (λ (m : ℕ). m < 2 ^ n) (sym is) within;
    }
