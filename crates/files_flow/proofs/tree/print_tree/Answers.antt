-- The nodes before each are those of the graph.
use Rattle.std.proofs.Common.{Vec, Global, ℕ, ap, arith, length}
use Rattle.std.proofs.lemmas.List.{length-map}
use Rattle.files_flow.proofs.FittingLemmas.{before_lead}
use Rattle.files_flow.proofs.tree.print_tree.Goals as goal

pub list_tree-requires-clause-nodes : goal.list_tree-requires-clause-nodes
list_tree-requires-clause-nodes g c =
    let before = c.in_ok-before.before.items in
    let are = rw c.deref.ensures.value at c.in_ok-before.ensures in
    let many = length-map before (λ (list : Vec ℕ Global). list.items) in
    omega (arith, are.count, c.requires.count, many, ap length c.deref-2.ensures.value)

pub list_tree-requires-clause-edges : goal.list_tree-requires-clause-edges
list_tree-requires-clause-edges g c =
    let are = rw c.deref.ensures.value at c.in_ok-before.ensures in
    rw c.deref-2.ensures.value (before_lead c.args.graph.now c.requires c.in_ok-before.before.items are)

pub returns-clause-ok : goal.returns-clause-ok
returns-clause-ok g c =
    let (text, appended, tree) = rw c.deref-2.ensures.value at c.in_ok-list_tree.ensures.ok in (
      text,
      appended,
      record {
        before = _;
        are_before = rw c.deref.ensures.value at c.in_ok-before.ensures;
        tree = tree;
      },
    )
