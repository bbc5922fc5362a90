-- The nodes so far have the numbers of what they read.
use Rattle.std.specs.List.{AllZip}
use Rattle.std.proofs.Common.{◌≡◌, take}
use Rattle.vob_flow.specs.declared.live.Flow.{Flow}
use Rattle.files_flow.specs.Expressions.{IsOwn, expressions_of}
use Rattle.files_flow.specs.Problems.{lists_of}
use Rattle.files_flow.proofs.expressions.number_all.Given as goal

abbrev pub invariant-loop-node : goal.invariant-loop-node
invariant-loop-node l = record {
  all : l.expressions ≡ expressions_of (take l.node l.nodes);
  own : AllZip (λ (node : Flow). IsOwn l.expressions node.reads.items) (take l.node l.nodes) (lists_of l.own.items);
}
