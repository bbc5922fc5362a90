-- Trees that grow as the moves of a parser are made again. No public clause cites this page.
use Rattle.std.specs.Prelude.{◌≡◌, ℕ, ◌+◌, ◌≤◌, List, [], ◌∷◌, ◌++◌, drop, length, take, Option, Some}
use Rattle.vob_lr.specs.TreeNodes.{below_of, inner, nodes_of, roots_of}
use Rattle.vob_lr.specs.Trees.{AreTrees, Trees, leaves, reductions}
use Rattle.vob_lr.specs.Unwinding.{Finishes}
use Rattle.vob_lr.specs.declared.grammar.Rule.{Rule}
use Rattle.vob_lr.specs.declared.grammar.Symbol.{Symbol}
use Rattle.vob_lr.specs.declared.tree.Forest.{Forest}
use Rattle.vob_lr.specs.declared.tree.Node.{Node}
use Rattle.vob_lr.specs.declared.tree.Tree.{Tree}

-- trees of the tokens that are read, and moves by which the others lead to the symbols `goal`
pub record IsReplayed (rules : List Rule) (tokens parsed : List ℕ) (goal : List Symbol) (forest : Forest)
    (moves : List (Option ℕ)) : Type 0 where
  pub symbols : List Symbol
  pub trees : Trees
  pub left : List ℕ
  pub fits : length tokens ≤ 18446744073709551615
  pub inside : forest.read ≤ length tokens
  pub are : AreTrees rules symbols trees
  pub tokens_of : leaves trees ≡ take forest.read tokens
  pub nodes : forest.nodes.items ≡ below_of 0 0 trees
  pub roots : forest.roots.items ≡ roots_of 0 0 trees
  pub finishes : Finishes rules goal symbols (drop forest.read tokens) moves left
  pub all : reductions trees ++ left ≡ parsed

-- the nodes of trees of symbols, by their tokens and by the rules of a parser
pub record AreReplayed (rules : List Rule) (symbols : List Symbol) (tokens parsed : List ℕ) (tree : Tree)
    : Type 0 where
  pub trees : Trees
  pub are : AreTrees rules symbols trees
  pub tokens_of : leaves trees ≡ tokens
  pub reduced : reductions trees ≡ parsed
  pub nodes : tree.nodes.items ≡ nodes_of trees
  pub first : tree.first ≡ inner trees

-- some moves can go on with this one
abbrev pub CanReplay : List Rule → Option ℕ → Forest → Type 0
CanReplay rules made forest = (tokens : List ℕ) × (parsed : List ℕ) × (goal : List Symbol)
    × (moves : List (Option ℕ)) × IsReplayed rules tokens parsed goal forest (made ∷ moves)

-- a move is made again
abbrev pub IsRedone : List Rule → Option ℕ → Forest → Forest → Type 0
IsRedone rules made forest grown = (tokens parsed : List ℕ) (goal : List Symbol) (moves : List (Option ℕ)) →
    IsReplayed rules tokens parsed goal forest (made ∷ moves) → IsReplayed rules tokens parsed goal grown moves

-- where the first of some trees begins, or else the index of the next token
abbrev pub start_of : List Node → ℕ → ℕ
start_of [] at = at
start_of (node ∷ more) at = node.from

-- the newest roots become the children of a node
pub record IsJoined (rule count : ℕ) (old new : Forest) : Type 0 where
  pub below : ℕ
  pub long : below + count ≡ length old.roots.items
  pub nodes : new.nodes.items ≡ old.nodes.items ++ drop below old.roots.items
  pub roots : new.roots.items ≡ take below old.roots.items ++ record {
    rule = Some rule;
    first = length old.nodes.items;
    count = count;
    from = start_of (drop below old.roots.items) old.read;
    to = old.read;
  } ∷ []
  pub read : new.read ≡ old.read
