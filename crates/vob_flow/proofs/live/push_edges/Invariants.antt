-- The edges so far were appended.
use Rattle.std.proofs.Common.{◌≡◌, ◌++◌, map, take}
use Rattle.vob_flow.proofs.live.push_edges.Given as goal

abbrev pub invariant-loop-end : goal.invariant-loop-end
invariant-loop-end l =
    l.edges.items ≡ l.fn.edges.items ++ map (λ end. (l.node, end)) (take l.end-index l.next)
