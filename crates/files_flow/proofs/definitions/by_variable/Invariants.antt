-- The definitions so far stand in the lists.
use Rattle.std.proofs.Common.{map}
use Rattle.files_flow.specs.Problems.{lists_of}
use Rattle.files_flow.proofs.DefinitionLemmas.{AreGroupedBelow}
use Rattle.files_flow.proofs.definitions.by_variable.Given as goal

abbrev pub invariant-loop-number : goal.invariant-loop-number
invariant-loop-number l =
    AreGroupedBelow l.variables (map (λ made. made.1) l.definitions) l.number (lists_of l.lists.items)
