-- The places from the last ones on.
use Rattle.std.proofs.Common.{◌≡◌, ℕ, ◌+◌, ◌<◌, ◌≤◌, length}
use Rattle.files_graph.specs.Parts.{at}
use Rattle.files_graph.proofs.parts.places_of.Given as goal

abbrev pub invariant-loop-back : goal.invariant-loop-back
invariant-loop-back l = record {
  long : length l.places.items ≡ length l.graph;
  each : (n j : ℕ) → n < length l.graph → j < length l.nodes.items → length l.nodes.items ≤ j + l.back →
      at l.nodes.items j ≡ n → (at l.places.items n ≤ j) × (at l.nodes.items (at l.places.items n) ≡ n);
}
