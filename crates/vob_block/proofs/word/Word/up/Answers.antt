-- The number of the result is the number shifted, cut at the width.
use Rattle.num_traits.specs.Laws.{shift_left}
use Rattle.std.proofs.Common.{ℕ, ◌^◌, ◌<◌, ap, subst, sym}
use Rattle.vob_block.proofs.NumberLemmas.{number_from_bits}
use Rattle.vob_block.proofs.PlaceLemmas.{HasPlaces-at, HasPlaces-shift, shift-lt}
use Rattle.vob_block.proofs.word.Word.up.Goals as goal

pub returns : goal.returns
returns g c =
    let number = g.Self.Word.number in
    let w = g.Self.FixedWidth.width in
    let n = g.Self.Word.BITS in
    let a = c.args.self in
    let within = shift-lt w n (number a) c.args.n g.met.Self.Word.width_law in
    let is = number_from_bits number g.Self.FixedWidth.of_bits n
    g.met.Self.Word.of_bits_number_law c.unsigned_shl.result _ _ c.unsigned_shl.ensures
    (ap (λ x. shift_left w x c.args.n) (g.met.Self.Word.bits_law a)) within in
    record {
      places = HasPlaces-at _ _ _ _ (sym is) (HasPlaces-shift w n (number a) c.args.n
          g.met.Self.Word.width_law);
      within = subst (λ (m : ℕ). m < 2 ^ n) (sym is) within;
    }
