-- The children are among the nodes.
use Rattle.std.proofs.Common.{arith}
use Rattle.files_parse.proofs.UnfoldLemmas.{children_inside}
use Rattle.files_parse.proofs.tree.WordTree.put_rule_fields.Goals as goal

pub put_numbers-requires : goal.put_numbers-requires
put_numbers-requires g c =
    let nodes = c.args.self.now.tree.now.nodes in
    children_inside nodes.items c.children.result.now c.args.node.now.first c.args.node.now.count _ c.children.ensures
    (omega arith)
    (omega (arith, nodes.ok.0))
