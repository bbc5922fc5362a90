-- The columns of the set bits that are left are still to be appended.
use Rattle.std.proofs.Common.{◌+◌, map}
use Rattle.vob_rows.specs.Sparse.{block_members}
use Rattle.vob_rows.proofs.SparseLemmas.{AreAppended}
use Rattle.vob_rows.proofs.sparse.push_members.Given as goal

abbrev pub invariant-loop-place : goal.invariant-loop-place
invariant-loop-place l = record {
  can_next : goal.iterator-loop-place.can_next l.place-iterator;
  is_finite : goal.iterator-loop-place.is_finite l.place-iterator;
  pushed : AreAppended l.fn.columns.items l.columns.items (block_members (l.from, l.block))
      (map (◌+◌ l.from) l.place-iterator.rest);
}
