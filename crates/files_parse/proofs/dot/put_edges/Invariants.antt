-- The edges that are left are still to be written.
use Rattle.std.proofs.Common.{◌+◌, ◌-◌}
use Rattle.std.specs.List.{range_with_len}
use Rattle.files_text.proofs.PrintedLemmas.{AppendsItems}
use Rattle.files_parse.specs.DotText.{dot_edge}
use Rattle.files_parse.proofs.dot.put_edges.Given as goal

abbrev pub invariant-loop-to : goal.invariant-loop-to
invariant-loop-to g l =
    AppendsItems (dot_edge l.from) (g.W.Write.contents l.fn.output) (g.W.Write.contents l.output)
    (range_with_len l.first l.count) (range_with_len l.to (l.first + l.count - l.to))
