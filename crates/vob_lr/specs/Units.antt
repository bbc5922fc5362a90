-- Which nonterminals become one other by a rule. No public clause cites this page.
use Rattle.std.specs.Prelude.{◌≡◌, ◌↔◌, ◌⊎◌, ℕ, Bool, List, [], ◌∷◌, ◌++◌, cond, slice_index_or, sum_by, Any, Contains}
use Rattle.vob_block.specs.Packing.{item}
use Rattle.vob_flow.specs.Closure.{IsEdge}
use Rattle.vob_flow.specs.Components.{component_of}
use Rattle.vob_lr.specs.Grammar.{BecomesEmpty, HasRule}
use Rattle.vob_lr.specs.declared.grammar.Rule.{Rule}
use Rattle.vob_lr.specs.declared.grammar.Symbol.{Symbol}
use Rattle.vob_lr.specs.declared.grammar.Symbol.TheVariants.{Terminal, Nonterminal}

-- nonterminal b stands on a right side of nonterminal a, and all beside it there can become empty
pub record IsUnit (rules : List Rule) (a b : ℕ) : Type 0 where
  pub before : List Symbol
  pub after : List Symbol
  pub rule : HasRule rules a (before ++ Nonterminal b ∷ after)
  pub empty_before : BecomesEmpty rules before
  pub empty_after : BecomesEmpty rules after

-- an edge leads from nonterminal a to nonterminal b exactly if that is so
abbrev pub AreUnits : List Rule → List (List ℕ) → Type 0
AreUnits rules next = (a b : ℕ) → IsEdge next a b ↔ IsUnit rules a b

-- a nonterminal of a set weighs nothing, and each other symbol 1
abbrev pub weight : List Bool → Symbol → ℕ
weight nullable (Terminal t) = 1
weight nullable (Nonterminal a) = cond (item nullable a) 0 1

-- what symbols weigh in all
abbrev pub total_weight : List Bool → List Symbol → ℕ
total_weight nullable xs = sum_by (weight nullable) xs

-- a symbol of a right side of this weight in all is nonterminal b, and has all of the weight
abbrev pub IsAlone : List Bool → ℕ → ℕ → Symbol → ℕ → ℕ → Type 0
IsAlone nullable left total x a b = (left ≡ a) × (x ≡ Nonterminal b) × (total ≡ weight nullable x)

-- one of some things gives numbers a and b
abbrev pub IsByOne : {A : Type 0} → (A → ℕ → ℕ → Type 0) → List A → ℕ → ℕ → Type 0
IsByOne {A} Each xs a b = (x : A) × Contains xs x × Each x a b

-- a symbol on the right side of a rule of nonterminal a is nonterminal b, and alone
abbrev pub IsUnitBy : List Bool → Rule → ℕ → ℕ → Type 0
IsUnitBy nullable rule =
    IsByOne (IsAlone nullable rule.left (total_weight nullable rule.right.items)) rule.right.items

-- edges that were there, and those for which P holds
abbrev pub GainEdges : (ℕ → ℕ → Type 0) → List (ℕ × ℕ) → List (ℕ × ℕ) → Type 0
GainEdges P before after =
    (a b : ℕ) → Contains after (a, b) ↔ (Contains before (a, b) ⊎ P a b)

-- an edge leads from node n to one of its component, by the nodes that name the components
abbrev pub LeadsBack : List (List ℕ) → List ℕ → ℕ → Type 0
LeadsBack next roots n =
    Any (λ m. component_of roots m ≡ component_of roots n) (slice_index_or next n [])
