-- The lines of the rules that are left are still to be written.
use Rattle.std.proofs.Common.{reverse, take}
use Rattle.files_text.proofs.PrintedLemmas.{AppendsItems}
use Rattle.files_parse.specs.Parses.{numbered_line}
use Rattle.files_parse.proofs.parse.put_derivation.Given as goal

abbrev pub invariant-loop-place : goal.invariant-loop-place
invariant-loop-place g l =
    AppendsItems (numbered_line l.file) (g.W.Write.contents l.fn.output) (g.W.Write.contents l.output)
    (reverse l.rules) (reverse (take l.place l.rules))
