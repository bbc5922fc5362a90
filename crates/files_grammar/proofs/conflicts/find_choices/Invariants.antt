-- The conflicts of the states so far.
use Rattle.files_grammar.specs.ConflictsFound.{AreFoundBefore}
use Rattle.files_grammar.proofs.conflicts.find_choices.Given as goal

abbrev pub invariant-loop-state : goal.invariant-loop-state
invariant-loop-state l = AreFoundBefore l.file l.table l.state 0 l.choices.items
