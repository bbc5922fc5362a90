-- The number of the result is the number negated.
use Rattle.std.specs.Int.{rotate_left}
use Rattle.std.proofs.Common.{ℕ, ◌^◌, ◌<◌, ap, subst, sym}
use Rattle.vob_block.proofs.NumberLemmas.{number_from_bits}
use Rattle.vob_block.proofs.PlaceLemmas.{HasPlaces-at, HasPlaces-rotate, rotate-lt}
use Rattle.vob_block.proofs.word.Word.rotate_up.Goals as goal

pub returns : goal.returns
returns g c =
    let number = g.Self.Word.number in
    let w = g.Self.FixedWidth.width in
    let n = g.Self.Word.BITS in
    let a = c.args.self in
    let within = rotate-lt w n (number a) c.args.n g.met.Self.Word.width_law c.in_range.ensures in
    let is = number_from_bits number g.Self.FixedWidth.of_bits n
    g.met.Self.Word.of_bits_number_law c.rotate_left.result _ _ c.rotate_left.ensures
    (ap (λ x. rotate_left w x c.args.n) (g.met.Self.Word.bits_law a)) within in
    record {
      places = HasPlaces-at _ _ _ _ (sym is) (HasPlaces-rotate w n (number a) c.args.n
          g.met.Self.Word.width_law c.in_range.ensures c.requires.positive c.requires.below);
      within = subst (λ (m : ℕ). m < 2 ^ n) (sym is) within;
    }
