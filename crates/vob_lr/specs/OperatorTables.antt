-- Operator grammars: a parser by precedences that decide accepts exactly what has a tree that nests so.
use Rattle.std.specs.Prelude.{◌≡◌, ◌≢◌, ◌↔◌, ℕ, ◌≤◌, List, [], ◌∷◌, length, slice_get, Option, Some}
use Rattle.vob_lr.specs.Languages.{rules_of}
use Rattle.vob_lr.specs.Nesting.{AreNested, IsByPrecedences, Replaces}
use Rattle.vob_lr.specs.Operations.{AreDecisive, AreOperations, IsOperator}
use Rattle.vob_lr.specs.Stops.{AcceptsBy, IsTooLong, IsUnexpected}
use Rattle.vob_lr.specs.Tables.{TableView, stays_at}
use Rattle.vob_lr.specs.Trees.{AreTreesOf, Trees}
use Rattle.vob_lr.specs.declared.grammar.Rule.{Rule}
use Rattle.vob_lr.specs.declared.grammar.Symbol.TheVariants.{Terminal, Nonterminal}
use Rattle.vob_lr.specs.declared.precedence.Precedence.{Precedence}

-- an operator grammar: rule 0 is e and the end, which is no operator, and the others are operations of e
pub record IsOperatorGrammar (rules : List Rule) (e : ℕ) : Type 0 where
  pub start : ℕ
  pub begins : Replaces rules 0 start (Nonterminal e ∷ Terminal 0 ∷ [])
  pub start_is : start ≢ e
  pub others : (r : ℕ) (rule : Rule) → slice_get rules r ≡ Some rule → r ≢ 0 → rule.left ≡ e
  pub operations : AreOperations rules e
  pub no_end : ¬ IsOperator rules e 0

-- its table by precedences that decide between each two
pub record IsOperatorTable (table : TableView) (terminals rules : List (Option Precedence)) (e : ℕ) : Type 0 where
  pub by : IsByPrecedences table terminals rules
  pub operations : IsOperatorGrammar (rules_of table) e
  pub decisive : AreDecisive (rules_of table) e (stays_at terminals rules)

-- trees of a parse that nest so
abbrev pub AreNestedOf : TableView → List (Option Precedence) → List (Option Precedence) → List ℕ →
    List ℕ → Trees → Type 0
AreNestedOf table terminals rules tokens parsed trees =
    AreTreesOf (rules_of table) tokens parsed trees
    × AreNested (rules_of table) (stays_at terminals rules) trees

-- a parser by such a table accepts exactly what has such trees
abbrev pub AcceptedAreNested : Type 0
AcceptedAreNested = (table : TableView) (terminals rules : List (Option Precedence)) (e : ℕ) →
    IsOperatorTable table terminals rules e → (tokens parsed : List ℕ) →
    AcceptsBy table tokens parsed ↔ ((trees : Trees) × AreNestedOf table terminals rules tokens parsed trees)

-- over that it is nowhere stuck, nor needs more reductions than tokens
abbrev pub NestedAreParsed : Type 0
NestedAreParsed = (table : TableView) (terminals rules : List (Option Precedence)) (e : ℕ) →
    IsOperatorTable table terminals rules e → (tokens parsed : List ℕ) (trees : Trees) →
    AreNestedOf table terminals rules tokens parsed trees →
    ((n : ℕ) → ¬ IsUnexpected table tokens n)
    × ((steps : ℕ) → length tokens ≤ steps → ¬ IsTooLong table tokens steps)
