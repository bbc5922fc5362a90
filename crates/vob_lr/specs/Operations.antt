-- Nonterminals whose rules are operations: each text has one tree at most that nests as precedences say.
use Rattle.std.specs.Prelude.{◌≡◌, ◌≢◌, ℕ, List, [], ◌∷◌}
use Rattle.vob_lr.specs.Nesting.{AreNested, HasLeftOperand, HasRightOperand, Replaces}
use Rattle.vob_lr.specs.Trees.{AreTrees, Trees, leaves}
use Rattle.vob_lr.specs.declared.grammar.Rule.{Rule}
use Rattle.vob_lr.specs.declared.grammar.Symbol.{Symbol}
use Rattle.vob_lr.specs.declared.grammar.Symbol.TheVariants.{Terminal, Nonterminal}
use Rattle.vob_lr.specs.declared.precedence.Stays.{Stays}
use Rattle.vob_lr.specs.declared.precedence.Stays.TheVariants.{Both}

-- a rule has operator t behind its first operand
abbrev pub IsOperator : List Rule → ℕ → ℕ → Type 0
IsOperator rules e t = (r : ℕ) × HasLeftOperand rules r e t

-- tokens and operands: an operand comes last, or before a token that is no operator
pub data AreOperands (rules : List Rule) (e : ℕ) : List Symbol → Type 0 where
  nothing : AreOperands rules e []
  token : {t : ℕ} {xs : List Symbol} → AreOperands rules e xs → AreOperands rules e (Terminal t ∷ xs)
  enclosed : {t : ℕ} {xs : List Symbol} → ¬ IsOperator rules e t → AreOperands rules e xs →
      AreOperands rules e (Nonterminal e ∷ Terminal t ∷ xs)
  last : AreOperands rules e (Nonterminal e ∷ [])

-- these behind a token, or behind an operand and an operator
pub data IsOperation (rules : List Rule) (e : ℕ) : List Symbol → Type 0 where
  begins : {t : ℕ} {xs : List Symbol} → AreOperands rules e xs → IsOperation rules e (Terminal t ∷ xs)
  goes_on : {t : ℕ} {xs : List Symbol} → AreOperands rules e xs →
      IsOperation rules e (Nonterminal e ∷ Terminal t ∷ xs)

-- the rules of nonterminal e are operations, and each has a first token or an operator of its own
pub record AreOperations (rules : List Rule) (e : ℕ) : Type 0 where
  pub each : (r : ℕ) (right : List Symbol) → Replaces rules r e right → IsOperation rules e right
  pub first : (r s t : ℕ) (xs ys : List Symbol) → Replaces rules r e (Terminal t ∷ xs) →
      Replaces rules s e (Terminal t ∷ ys) → r ≡ s
  pub behind : (r s t : ℕ) → HasLeftOperand rules r e t → HasLeftOperand rules s e t → r ≡ s

-- of an operator and a rule that ends with an operand not both stay
abbrev pub AreDecisive : List Rule → ℕ → (ℕ → ℕ → Stays) → Type 0
AreDecisive rules e which =
    (r t : ℕ) → HasRightOperand rules r e → IsOperator rules e t → which t r ≢ Both

-- then one of the trees with some leaves nests so
abbrev pub NestedTreesAreOne : Type 0
NestedTreesAreOne = (rules : List Rule) (e : ℕ) (which : ℕ → ℕ → Stays) → AreOperations rules e →
    AreDecisive rules e which → (trees others : Trees) →
    AreTrees rules (Nonterminal e ∷ []) trees → AreTrees rules (Nonterminal e ∷ []) others →
    AreNested rules which trees → AreNested rules which others → leaves trees ≡ leaves others →
    trees ≡ others
