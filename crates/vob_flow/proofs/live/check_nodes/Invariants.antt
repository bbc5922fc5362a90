-- Nothing is wrong at the nodes so far.
use Rattle.std.proofs.Common.{◌≡◌, ℕ, ◌<◌, Some, slice_get}
use Rattle.vob_flow.specs.declared.live.Flow.{Flow}
use Rattle.vob_flow.specs.FlowFaults.{IsSound}
use Rattle.vob_flow.proofs.live.check_nodes.Given as goal

abbrev pub invariant-loop-node : goal.invariant-loop-node
invariant-loop-node l =
    (k : ℕ) (flow : Flow) → k < l.node → slice_get l.nodes k ≡ Some flow →
    IsSound l.vars l.nodes flow
