-- The nodes so far have given theirs.
use Rattle.std.proofs.Common.{◌≡◌, length}
use Rattle.vob_flow.specs.Closing.{AreDrawn}
use Rattle.vob_flow.proofs.closing.close_roots.Given as goal

abbrev pub invariant-loop-k : goal.invariant-loop-k
invariant-loop-k l = record {
  drawn : AreDrawn l.graph l.parts.roots.items l.parts.nodes.items l.k l.sets.rows;
  count : length l.sets.rows ≡ length l.fn.sets.rows;
  columns : l.sets.columns ≡ l.fn.sets.columns;
}
