-- So many lists were made.
use Rattle.std.proofs.Common.{◌≡◌, [], replicate}
use Rattle.files_flow.specs.Problems.{lists_of}
use Rattle.files_flow.proofs.problem.empty_lists.Given as goal

abbrev pub invariant-loop : goal.invariant-loop
invariant-loop l = lists_of l.lists.items ≡ replicate l.counter []
