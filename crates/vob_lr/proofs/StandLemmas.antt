-- What is replayed is the tree of a parse.
use Rattle.std.proofs.Common.{◌≡◌, ℕ, List, [], drop, length, refl, sym, ap, ◌∙◌, subst, arith}
use Rattle.std.proofs.lemmas.List.{drop_at, length-append}
use Rattle.vob_lr.specs.Derivations.{IsParse}
use Rattle.vob_lr.specs.Replays.{AreReplayed}
use Rattle.vob_lr.specs.TreeNodes.{IsTree, Stand, below_of, roots_of}
use Rattle.vob_lr.specs.declared.grammar.Rule.{Rule}
use Rattle.vob_lr.specs.declared.tree.Node.{Node}
use Rattle.vob_lr.specs.declared.tree.Tree.{Tree}
use Rattle.vob_lr.proofs.RootLemmas.{count_nodes, length-below, length-roots, stand_for}

pub is_tree : (rules : List Rule) (tokens parsed : List ℕ) (tree : Tree) (p : IsParse rules tokens parsed) →
    AreReplayed rules p.symbols tokens parsed tree → IsTree rules tokens parsed tree
is_tree rules tokens parsed tree p own =
    let below = below_of 0 0 own.trees in
    let roots = roots_of 0 0 own.trees in
    let cut : drop tree.first tree.nodes.items ≡ roots =
    ap (λ (l : List Node). drop tree.first l) own.nodes
    ∙ drop_at below roots tree.first (length-below 0 0 own.trees ∙ sym own.first) in
    record {
      trees = own.trees;
      are = record {
        rule = p.rule;
        is = p.is;
        symbols = p.symbols;
        then_end = p.then_end;
        trees_of = own.are;
        tokens_of = own.tokens_of;
        reduced = own.reduced;
      };
      stand = subst (λ (l : List Node). Stand tree.nodes.items l 0 own.trees) (sym cut)
          (stand_for tree.nodes.items [] roots 0 0 own.trees own.nodes refl);
      count = omega (
        arith,
        ap (λ (l : List Node). length l) own.nodes,
        length-append below roots,
        length-below 0 0 own.trees,
        length-roots 0 0 own.trees,
        count_nodes own.trees,
        ap (λ (l : List ℕ). length l) own.tokens_of,
        ap (λ (l : List ℕ). length l) own.reduced,
      );
      nodes = own.nodes;
      first = own.first;
    }
