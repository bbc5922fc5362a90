-- What was counted, and what is left, are all that match.
use Rattle.std.proofs.Common.{◌≡◌, ◌+◌, true, length}
use Rattle.std.specs.declared.ops.Bound.TheVariants.{Included, Excluded}
use Rattle.vob_walk.specs.Matches.{matches}
use Rattle.vob_filter.proofs.rows.count_between.Given as goal

abbrev pub invariant-loop-row : goal.invariant-loop-row
invariant-loop-row l = record {
  can_next : (goal.iterator-loop-row).can_next l._row-iterator;
  is_finite : (goal.iterator-loop-row).is_finite l._row-iterator;
  counted : l.count + length l._row-iterator.rest
      ≡ length (matches l.filter.bits true (Included l.start) (Excluded l.end));
}
