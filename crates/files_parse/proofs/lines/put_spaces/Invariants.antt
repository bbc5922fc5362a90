-- The spaces that are left are still to be written.
use Rattle.std.proofs.Common.{◌-◌, codes}
use Rattle.std.specs.List.{repeat}
use Rattle.files_text.proofs.PrintedLemmas.{AppendsBut}
use Rattle.files_parse.proofs.lines.put_spaces.Given as goal

abbrev pub invariant-loop : goal.invariant-loop
invariant-loop g l =
    AppendsBut (g.W.Write.contents l.fn.output) (g.W.Write.contents l.output)
    (repeat l.count (codes "  ")) (repeat (l.count - l.counter) (codes "  "))
