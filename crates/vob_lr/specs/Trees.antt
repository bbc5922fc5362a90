-- The trees of parses: a leaf for each token, and a node for each rule above the trees of its right side.
use Rattle.std.specs.Prelude.{◌≡◌, ◌↔◌, ℕ, List, [], ◌∷◌, ◌++◌, slice_get, Some}
use Rattle.vob_lr.specs.Derivations.{IsParse}
use Rattle.vob_lr.specs.declared.grammar.Rule.{Rule}
use Rattle.vob_lr.specs.declared.grammar.Symbol.{Symbol}
use Rattle.vob_lr.specs.declared.grammar.Symbol.TheVariants.{Terminal, Nonterminal}

-- trees, one behind another: the first is a leaf of token t, or a node by rule r above trees
pub data Trees : Type 0 where
  none : Trees
  leaf : (t : ℕ) (more : Trees) → Trees
  node : (r : ℕ) (below more : Trees) → Trees

-- the tokens of their leaves
abbrev pub leaves : Trees → List ℕ
leaves none = []
leaves (leaf t more) = t ∷ leaves more
leaves (node r below more) = leaves below ++ leaves more

-- the rules of their nodes, in the order in which a parser reduces by them: a node's comes last
abbrev pub reductions : Trees → List ℕ
reductions none = []
reductions (leaf t more) = reductions more
reductions (node r below more) = reductions below ++ r ∷ reductions more

-- trees of some symbols: a leaf of each terminal, and of each nonterminal a node by one of its rules
pub data AreTrees (rules : List Rule) : List Symbol → Trees → Type 0 where
  nothing : AreTrees rules [] none
  terminal : {t : ℕ} {xs : List Symbol} {more : Trees} → AreTrees rules xs more →
      AreTrees rules (Terminal t ∷ xs) (leaf t more)
  by_rule : {r : ℕ} {rule : Rule} {xs : List Symbol} {below more : Trees} →
      slice_get rules r ≡ Some rule → AreTrees rules rule.right.items below →
      AreTrees rules xs more → AreTrees rules (Nonterminal rule.left ∷ xs) (node r below more)

-- the trees of a parse: those of what stands before the end in rule 0
pub record AreTreesOf (rules : List Rule) (tokens parsed : List ℕ) (trees : Trees) : Type 0 where
  pub rule : Rule
  pub is : slice_get rules 0 ≡ Some rule
  pub symbols : List Symbol
  pub then_end : rule.right.items ≡ symbols ++ Terminal 0 ∷ []
  pub trees_of : AreTrees rules symbols trees
  pub tokens_of : leaves trees ≡ tokens
  pub reduced : reductions trees ≡ parsed

-- parses are what has trees
abbrev pub ParsesHaveTrees : Type 0
ParsesHaveTrees = (rules : List Rule) (tokens parsed : List ℕ) →
    IsParse rules tokens parsed ↔ ((trees : Trees) × AreTreesOf rules tokens parsed trees)

-- and each parse has one tree, or a list of trees if more symbols stand before the end
abbrev pub ParsesHaveOneTree : Type 0
ParsesHaveOneTree = (rules : List Rule) (tokens parsed : List ℕ) (trees others : Trees) →
    AreTreesOf rules tokens parsed trees → AreTreesOf rules tokens parsed others → trees ≡ others
