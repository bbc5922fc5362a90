-- The indices that are left are those of set bits, and the bits of the others are unset.
use Rattle.std.proofs.Common.{◌≡◌, ◌<◌, ℕ, true, false, length}
use Rattle.std.specs.declared.ops.Bound.TheVariants.{Unbounded}
use Rattle.vob_block.specs.Packing.{item}
use Rattle.vob_walk.specs.Left.{AreMatches, is_left}
use Rattle.vob_slots.proofs.loops.clear_those.Given as goal

abbrev pub invariant-loop-i : goal.invariant-loop-i
invariant-loop-i l = record {
  can_next : (goal.iterator-loop-i).can_next l.i-iterator;
  is_finite : (goal.iterator-loop-i).is_finite l.i-iterator;
  len : length l.vob.bits ≡ length l.fn.vob.bits;
  matches : AreMatches l.others.bits true Unbounded Unbounded l.i-iterator.rest;
  cleared : (i : ℕ) → i < length l.others.bits → item l.others.bits i ≡ true
      → is_left l.i-iterator.rest i ≡ false → item l.vob.bits i ≡ false;
  kept : (i : ℕ) → item l.others.bits i ≡ false → item l.vob.bits i ≡ item l.fn.vob.bits i;
}
