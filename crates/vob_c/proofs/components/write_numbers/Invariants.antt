-- The nodes so far have the numbers of their components.
use Rattle.std.proofs.Common.{◌≡◌, ℕ, ◌-◌, ◌<◌}
use Rattle.vob_flow.specs.Components.{component_of}
use Rattle.vob_c.specs.Components.{number_of}
use Rattle.vob_c.proofs.components.write_numbers.Given as goal

abbrev pub invariant-loop-node : goal.invariant-loop-node
invariant-loop-node l = (n : ℕ) → n < l.node →
    component_of l.component n ≡ l.count - 1 - number_of l.numbers (component_of l.roots n)
