-- The line of the next node is written.
use Rattle.std.proofs.Common.{refl}
use Rattle.std.proofs.lemmas.List.{drop_more, drop_all}
use Rattle.files_text.proofs.PrintedLemmas.{items_all, items_more, items_none}
use Rattle.files_parse.proofs.UnfoldLemmas.{no_node}
use Rattle.files_parse.proofs.tree.WordTree.put_lines.Goals as goal

pub loop-node-init : goal.loop-node-init
loop-node-init g c = items_all _ _ _ _ refl

pub loop-node-preserved : goal.loop-node-preserved
loop-node-preserved g c =
    items_more _ _ _ _ _ _ _ _ (drop_more c.args.lines.now c.loop-node.node-index (no_node, 0) c.loop-node-test.true)
    c.loop-node.invariant c.in_ok-put_line.ensures

pub returns : goal.returns
returns g c =
    items_none _ _ _ _ _ (drop_all c.loop-node.node-index c.args.lines.now c.loop-node-test.false) c.loop-node.invariant
