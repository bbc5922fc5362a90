-- The nodes so far were reached.
use Rattle.std.proofs.Common.{take}
use Rattle.vob_flow.specs.Reach.{HaveEntered}
use Rattle.vob_flow.proofs.paths.enter_all.Given as goal

abbrev pub invariant-loop-node : goal.invariant-loop-node
invariant-loop-node l =
    HaveEntered (take l.node-index l.nodes) l.fn.reached.bits l.fn.waiting.items l.reached.bits
    l.waiting.items
