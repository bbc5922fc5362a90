-- The roots of the last nodes so far have numbers.
use Rattle.std.proofs.Common.{◌-◌, length}
use Rattle.vob_c.specs.Components.{HaveNumbers}
use Rattle.vob_c.proofs.components.numbers_of.Given as goal

abbrev pub invariant-loop-step : goal.invariant-loop-step
invariant-loop-step l = HaveNumbers l.graph l.found.roots.items l.found.nodes.items
    (length l.found.nodes.items - l.step) l.numbers.items l.count
