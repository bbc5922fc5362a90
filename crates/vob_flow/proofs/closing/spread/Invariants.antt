-- The sets so far have those at their roots.
use Rattle.std.proofs.Common.{◌≡◌}
use Rattle.vob_flow.specs.Changes.{EachGets}
use Rattle.vob_flow.specs.Components.{component_of}
use Rattle.vob_flow.specs.Draws.{IsIn}
use Rattle.vob_flow.proofs.closing.spread.Given as goal

abbrev pub invariant-loop-node : goal.invariant-loop-node
invariant-loop-node l = record {
  spread : EachGets l.fn.sets.rows (λ n. IsIn l.fn.sets.rows (component_of l.roots n)) l.sets.rows l.node;
  columns : l.sets.columns ≡ l.fn.sets.columns;
}
