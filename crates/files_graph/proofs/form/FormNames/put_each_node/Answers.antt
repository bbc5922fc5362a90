-- The next node is written.
use Rattle.std.proofs.Common.{◌≡◌, ◌-◌, ap, arith, length}
use Rattle.std.specs.List.{range_with_len}
use Rattle.files_text.proofs.PrintedLemmas.{items_all, items_more, items_none, range_more, range_none}
use Rattle.files_graph.proofs.form.FormNames.put_each_node.Goals as goal

pub loop-node-init : goal.loop-node-init
loop-node-init g c =
    let all : length c.args.self.now.names - 0 ≡ length c.args.self.now.names = omega arith in
    items_all _ _ _ _ (ap (range_with_len 0) all)

pub loop-node-preserved : goal.loop-node-preserved
loop-node-preserved g c =
    items_more _ _ _ _ _ _ _ _ (range_more c.loop-node.node (length c.args.self.now.names)
    (omega (arith, ap (λ own. length own.names) c.self.view_is)))
    c.loop-node.invariant c.in_ok-put_node.ensures

pub returns : goal.returns
returns g c =
    items_none _ _ _ _ _ (range_none c.loop-node.node (length c.args.self.now.names)
    (omega (arith, ap (λ own. length own.names) c.self.view_is)))
    c.loop-node.invariant
