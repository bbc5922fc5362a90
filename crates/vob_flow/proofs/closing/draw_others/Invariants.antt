-- The ends so far have given theirs.
use Rattle.std.proofs.Common.{◌≡◌, take}
use Rattle.vob_flow.specs.Changes.{Gets}
use Rattle.vob_flow.specs.Closing.{IsDrawnBy}
use Rattle.vob_flow.proofs.closing.draw_others.Given as goal

abbrev pub invariant-loop-end : goal.invariant-loop-end
invariant-loop-end l = record {
  drawn : Gets l.fn.sets.rows l.root
      (IsDrawnBy l.fn.sets.rows l.roots l.root (take l.end-index l.ends)) l.sets.rows;
  columns : l.sets.columns ≡ l.fn.sets.columns;
}
