-- The numbers so far are the tops of roots.
use Rattle.std.proofs.Common.{◌≡◌, ℕ, ◌<◌, length}
use Rattle.vob_flow.specs.Components.{component_of}
use Rattle.files_graph.specs.Parts.{at}
use Rattle.files_graph.proofs.parts.numbers_of.Given as goal

abbrev pub invariant-loop-node : goal.invariant-loop-node
invariant-loop-node l = record {
  long : length l.numbers.items ≡ l.node;
  each : (n : ℕ) → n < l.node →
      at l.numbers.items n ≡ at l.tops.items (component_of l.components.roots.items n);
}
