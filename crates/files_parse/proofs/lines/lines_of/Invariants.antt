-- The lines so far, and the nodes that are open.
use Rattle.files_parse.specs.TreeLines.{IsUnfolding}
use Rattle.files_parse.proofs.lines.lines_of.Given as goal

abbrev pub invariant-loop : goal.invariant-loop
invariant-loop l = IsUnfolding l.tree l.counter l.stack.items l.lines.items
