-- Trees in one array of nodes, each with the tokens that it spans.
use Rattle.std.specs.Prelude.{◌≡◌, ℕ, ◌+◌, List, [], ◌∷◌, ◌++◌, drop, length, take, None, Some}
use Rattle.vob_lr.specs.Trees.{AreTreesOf, Trees, leaves}
use Rattle.vob_lr.specs.Trees.Trees.{none, leaf, node}
use Rattle.vob_lr.specs.declared.grammar.Rule.{Rule}
use Rattle.vob_lr.specs.declared.tree.Node.{Node}
use Rattle.vob_lr.specs.declared.tree.Tree.{Tree}

-- the node of the token with an index
abbrev pub leaf_at : ℕ → Node
leaf_at at = record { rule = None; first = 0; count = 0; from = at; to = at + 1 }

-- so many nodes from the one with number `first` on
abbrev pub nodes_at : List Node → ℕ → ℕ → List Node
nodes_at nodes first count = take count (drop first nodes)

-- nodes side by side stand for trees, the first token of which has an index. A node of a rule has the nodes of
-- what is below it side by side in the array, and spans their tokens
pub data Stand (nodes : List Node) : List Node → ℕ → Trees → Type 0 where
  nothing : {at : ℕ} → Stand nodes [] at none
  token : {t at : ℕ} {roots : List Node} {more : Trees} → Stand nodes roots (at + 1) more →
      Stand nodes (leaf_at at ∷ roots) at (leaf t more)
  by_rule : {r first count at : ℕ} {roots : List Node} {below more : Trees} →
      length (nodes_at nodes first count) ≡ count → Stand nodes (nodes_at nodes first count) at below →
      Stand nodes roots (at + length (leaves below)) more →
      Stand nodes (record {
        rule = Some r;
        first = first;
        count = count;
        from = at;
        to = at + length (leaves below);
      } ∷ roots) at (node r below more)

-- how many trees are side by side
abbrev pub width : Trees → ℕ
width none = 0
width (leaf t more) = width more + 1
width (node r below more) = width more + 1

-- how many nodes are below the roots of trees
abbrev pub inner : Trees → ℕ
inner none = 0
inner (leaf t more) = inner more
inner (node r below more) = (inner below + width below) + inner more

-- the roots of trees, the first token of which has an index. The nodes below them have the numbers from `first` on
abbrev pub roots_of : (first at : ℕ) → Trees → List Node
roots_of first at none = []
roots_of first at (leaf t more) = leaf_at at ∷ roots_of first (at + 1) more
roots_of first at (node r below more) = record {
  rule = Some r;
  first = first + inner below;
  count = width below;
  from = at;
  to = at + length (leaves below);
} ∷ roots_of (first + (inner below + width below)) (at + length (leaves below)) more

-- the nodes below the roots: by each reduction in turn, those that it puts below a node
abbrev pub below_of : (first at : ℕ) → Trees → List Node
below_of first at none = []
below_of first at (leaf t more) = below_of first (at + 1) more
below_of first at (node r below more) = (below_of first at below ++ roots_of first at below)
    ++ below_of (first + (inner below + width below)) (at + length (leaves below)) more

-- all nodes, the roots last
abbrev pub nodes_of : Trees → List Node
nodes_of trees = below_of 0 0 trees ++ roots_of 0 0 trees

-- the last nodes stand for the trees of a parse. There is a node for each token and for each reduction,
-- in the order of the reductions
pub record IsTree (rules : List Rule) (tokens parsed : List ℕ) (tree : Tree) : Type 0 where
  pub trees : Trees
  pub are : AreTreesOf rules tokens parsed trees
  pub stand : Stand tree.nodes.items (drop tree.first tree.nodes.items) 0 trees
  pub count : length tree.nodes.items ≡ length tokens + length parsed
  pub nodes : tree.nodes.items ≡ nodes_of trees
  pub first : tree.first ≡ inner trees
