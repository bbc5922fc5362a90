-- The names so far were copied.
use Rattle.std.proofs.Common.{◌≡◌, take}
use Rattle.files_flow.specs.Problems.{lists_of}
use Rattle.files_flow.proofs.problem.labels_of.Given as goal

abbrev pub invariant-loop-number : goal.invariant-loop-number
invariant-loop-number l = lists_of l.labels.items ≡ take l.number l.names
