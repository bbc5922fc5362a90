-- The lists so far were copied.
use Rattle.std.proofs.Common.{◌≡◌, map, take}
use Rattle.vob_flow.specs.declared.live.Flow.{Flow}
use Rattle.files_flow.specs.Problems.{lists_of}
use Rattle.files_flow.proofs.problem.node_lists.Given as goal

abbrev pub invariant-loop-node : goal.invariant-loop-node
invariant-loop-node l = record {
  reads : lists_of l.reads.items ≡ take l.node (map (λ (node : Flow). node.reads.items) l.nodes);
  writes : lists_of l.writes.items ≡ take l.node (map (λ (node : Flow). node.writes.items) l.nodes);
  next : lists_of l.next.items ≡ take l.node (map (λ (node : Flow). node.next.items) l.nodes);
}
