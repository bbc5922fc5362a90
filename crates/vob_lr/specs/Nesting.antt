-- How operators nest in trees, and that they do so as precedences say in what a parser accepts.
use Rattle.std.specs.Prelude.{◌≡◌, ℕ, List, [], ◌∷◌, ◌++◌, length, slice_get, Option, Some}
use Rattle.vob_lr.specs.Edges.{BeginsLast, EndsFirst, HasNode}
use Rattle.vob_lr.specs.Languages.{rules_of}
use Rattle.vob_lr.specs.Stops.{AcceptsBy, IsSound}
use Rattle.vob_lr.specs.Tables.{AreRowsOfCells, TableView, stays_at}
use Rattle.vob_lr.specs.Trees.{AreTreesOf, Trees}
use Rattle.vob_lr.specs.declared.grammar.Rule.{Rule}
use Rattle.vob_lr.specs.declared.grammar.Symbol.{Symbol}
use Rattle.vob_lr.specs.declared.grammar.Symbol.TheVariants.{Terminal, Nonterminal}
use Rattle.vob_lr.specs.declared.precedence.Precedence.{Precedence}
use Rattle.vob_lr.specs.declared.precedence.Stays.{Stays}
use Rattle.vob_lr.specs.declared.precedence.Stays.TheVariants.{Shift, Rule as OneRule, Nothing, Both}

-- rule r replaces nonterminal e by these symbols
abbrev pub Replaces : List Rule → ℕ → ℕ → List Symbol → Type 0
Replaces rules r e right =
    (rule : Rule) × (slice_get rules r ≡ Some rule) × (rule.left ≡ e) × (rule.right.items ≡ right)

-- it does so by an operand e, operator t and more
abbrev pub HasLeftOperand : List Rule → ℕ → ℕ → ℕ → Type 0
HasLeftOperand rules r e t =
    (more : List Symbol) × Replaces rules r e (Nonterminal e ∷ Terminal t ∷ more)

-- it does so by symbols that an operand e ends
abbrev pub HasRightOperand : List Rule → ℕ → ℕ → Type 0
HasRightOperand rules r e = (more : List Symbol) × Replaces rules r e (more ++ Nonterminal e ∷ [])

-- of a shift and a rule the shift stays, or both do
abbrev pub ShiftStays : Stays → Type 0
ShiftStays Shift = Unit {0}
ShiftStays OneRule = ⊥
ShiftStays Nothing = ⊥
ShiftStays Both = Unit {0}

-- the rule stays, or both do
abbrev pub RuleStays : Stays → Type 0
RuleStays Shift = ⊥
RuleStays OneRule = Unit {0}
RuleStays Nothing = ⊥
RuleStays Both = Unit {0}

-- operators nest by which of an operator's shift and a rule stays
pub record AreNested (rules : List Rule) (which : ℕ → ℕ → Stays) (trees : Trees) : Type 0 where
  -- the shift of operator t, if its operation begins the last operand of rule r
  pub right : (r s e t : ℕ) (below : Trees) → HasNode r below trees → HasRightOperand rules r e →
      HasLeftOperand rules s e t → BeginsLast s below → ShiftStays (which t r)
  -- and rule s, if it ends the first operand of operator t
  pub left : (r s e t : ℕ) (below : Trees) → HasNode r below trees → HasLeftOperand rules r e t →
      HasRightOperand rules s e → EndsFirst s below → RuleStays (which t s)

-- a table by these precedences of terminals and of rules
pub record IsByPrecedences (table : TableView) (terminals rules : List (Option Precedence)) : Type 0 where
  pub sound : IsSound table
  pub cells : AreRowsOfCells table.machine terminals rules (length table.machine.sets) table.cells

-- in the trees of what a parser by such a table accepts operators nest so
abbrev pub OperatorsNest : Type 0
OperatorsNest = (table : TableView) (terminals rules : List (Option Precedence)) →
    IsByPrecedences table terminals rules → (tokens parsed : List ℕ) → AcceptsBy table tokens parsed →
    (trees : Trees) → AreTreesOf (rules_of table) tokens parsed trees →
    AreNested (rules_of table) (stays_at terminals rules) trees
