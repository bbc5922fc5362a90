-- The lines of the nodes that are left are still to be written.
use Rattle.std.proofs.Common.{drop, map}
use Rattle.files_text.specs.Words.{token_of}
use Rattle.files_text.proofs.PrintedLemmas.{AppendsItems}
use Rattle.files_parse.specs.TreeLines.{line_of_node}
use Rattle.files_parse.proofs.tree.WordTree.put_lines.Given as goal

abbrev pub invariant-loop-node : goal.invariant-loop-node
invariant-loop-node g l =
    AppendsItems (line_of_node l.self.file.now (map token_of l.self.words.now) l.self.tokens.now)
    (g.W.Write.contents l.fn.output) (g.W.Write.contents l.output) l.lines (drop l.node-index l.lines)
