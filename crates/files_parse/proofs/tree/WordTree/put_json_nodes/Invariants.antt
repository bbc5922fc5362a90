-- The nodes that are left are still to be written.
use Rattle.std.proofs.Common.{◌-◌, length, map}
use Rattle.std.specs.List.{range_with_len}
use Rattle.files_text.specs.Words.{token_of}
use Rattle.files_text.proofs.PrintedLemmas.{AppendsItems}
use Rattle.files_parse.specs.JsonText.{json_at}
use Rattle.files_parse.proofs.tree.WordTree.put_json_nodes.Given as goal

abbrev pub invariant-loop-number : goal.invariant-loop-number
invariant-loop-number g l =
    let nodes = l.self.tree.now.nodes.items in
    AppendsItems (json_at l.self.file.now (map token_of l.self.words.now) l.self.tokens.now nodes)
    (g.W.Write.contents l.fn.output) (g.W.Write.contents l.output) (range_with_len 0 (length nodes))
    (range_with_len l.number (length nodes - l.number))
