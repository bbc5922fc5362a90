-- The number was added to the lists so far.
use Rattle.std.proofs.Common.{take}
use Rattle.files_flow.specs.Problems.{IsAddedTo, lists_of}
use Rattle.files_flow.proofs.problem.add_to_each.Given as goal

abbrev pub invariant-loop-list : goal.invariant-loop-list
invariant-loop-list l =
    IsAddedTo (take l.list-index l.some) l.number (lists_of l.fn.lists) (lists_of l.lists)
