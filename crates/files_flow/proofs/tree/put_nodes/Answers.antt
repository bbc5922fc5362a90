-- The next node is written.
use Rattle.std.proofs.Common.{◌≡◌, ◌-◌, ap, arith, length}
use Rattle.std.specs.List.{range_with_len}
use Rattle.files_text.proofs.PrintedLemmas.{items_all, items_more, items_none, range_more, range_none}
use Rattle.files_flow.proofs.tree.put_nodes.Goals as goal

pub loop-node-init : goal.loop-node-init
loop-node-init g c =
    let all : length c.args.names.now - 0 ≡ length c.args.names.now = omega arith in
    items_all _ _ _ _ (ap (range_with_len 0) all)

pub loop-node-preserved : goal.loop-node-preserved
loop-node-preserved g c =
    items_more _ _ _ _ _ _ _ _ (range_more c.loop-node.node (length c.args.names.now)
    (omega (arith, c.loop-node-test.true, c.len-node-end.ensures))) c.loop-node.invariant c.in_ok-put_node.ensures

pub returns : goal.returns
returns g c =
    items_none _ _ _ _ _ (range_none c.loop-node.node (length c.args.names.now)
    (omega (arith, c.loop-node-test.false, c.len-node-end.ensures))) c.loop-node.invariant
