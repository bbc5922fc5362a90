-- The nodes so far are among those that come before others.
use Rattle.files_flow.specs.Problems.{lists_of}
use Rattle.files_flow.proofs.ProblemLemmas.{AreBeforeOf}
use Rattle.files_flow.proofs.problem.nodes_before.Given as goal

abbrev pub invariant-loop-number : goal.invariant-loop-number
invariant-loop-number l = AreBeforeOf l.nodes l.number (lists_of l.before.items)
