-- The conflicts before the next terminal.
use Rattle.files_grammar.specs.ConflictsFound.{AreFoundBefore}
use Rattle.files_grammar.proofs.conflicts.add_state.Given as goal

abbrev pub invariant-loop-terminal : goal.invariant-loop-terminal
invariant-loop-terminal l = AreFoundBefore l.file l.table l.state l.terminal l.choices.items
