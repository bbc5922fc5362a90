-- The lines of the conflicts that are left are still to be written.
use Rattle.std.specs.Prelude.{drop}
use Rattle.files_grammar.specs.ConflictText.{SaysConflict}
use Rattle.files_grammar.proofs.TextLemmas.{WritesBut}
use Rattle.files_grammar.proofs.conflicts.Conflicts.put.Given as goal

abbrev pub invariant-loop-place : goal.invariant-loop-place
invariant-loop-place g l =
    WritesBut (SaysConflict l.names l.states) (g.W.Write.contents l.fn.output) (g.W.Write.contents l.output)
    l.self.choices.items (drop l.place l.self.choices.items)
