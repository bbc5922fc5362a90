-- The roots are among the nodes.
use Rattle.std.proofs.Common.{ap, arith, length}
use Rattle.std.proofs.lemmas.List.{length-drop}
use Rattle.files_parse.proofs.tree.WordTree.put_roots.Goals as goal

pub put_numbers-requires : goal.put_numbers-requires
put_numbers-requires g c =
    let tree = c.args.self.now.tree.now in
    omega (arith, ap length c.roots.ensures, length-drop tree.first tree.nodes.items, tree.nodes.ok.0)
