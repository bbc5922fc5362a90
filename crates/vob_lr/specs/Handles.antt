-- Handles: the right sides that a rightmost derivation, read backwards, replaces.
use Rattle.std.specs.Prelude.{◌≡◌, ◌↔◌, ℕ, List, ◌∷◌, ◌++◌, map, slice_get, Some}
use Rattle.vob_lr.specs.Canonical.{IsProductive, LeadsBy}
use Rattle.vob_lr.specs.Grammar.{HasRule}
use Rattle.vob_lr.specs.Lookaheads.{Machine, Reduces}
use Rattle.vob_lr.specs.declared.grammar.Rule.{Rule}
use Rattle.vob_lr.specs.declared.grammar.Symbol.{Symbol}
use Rattle.vob_lr.specs.declared.grammar.Symbol.TheVariants.{Terminal, Nonterminal}

-- a rightmost form: the right side of rule 0, or a form in which the right side of a rule stands in
-- place of the last nonterminal
pub data IsRightmostForm (rules : List Rule) : List Symbol → Type 0 where
  start : {xs : List Symbol} {rule : Rule} → slice_get rules 0 ≡ Some rule →
      xs ≡ rule.right.items → IsRightmostForm rules xs
  further : {xs ys right : List Symbol} {a : ℕ} (before : List Symbol) (after : List ℕ) →
      IsRightmostForm rules xs → HasRule rules a right →
      xs ≡ before ++ Nonterminal a ∷ map Terminal after →
      ys ≡ before ++ (right ++ map Terminal after) → IsRightmostForm rules ys

-- a handle of rule r ends in state q with terminal t behind it: the rule's left side stands before t
-- in a rightmost form, and what stands before that leads to q with the right side
pub record HasHandle (m : Machine) (q t r : ℕ) : Type 0 where
  pub rule : Rule
  pub is : slice_get m.grammar.rules.items r ≡ Some rule
  pub before : List Symbol
  pub after : List ℕ
  pub form : IsRightmostForm m.grammar.rules.items
      (before ++ Nonterminal rule.left ∷ Terminal t ∷ map Terminal after)
  pub leads : LeadsBy m.moves 0 (before ++ rule.right.items) q

-- the lookaheads of a rule's complete item in a state are the terminals behind handles that end there
abbrev pub ReductionsAreOfHandles : Type 0
ReductionsAreOfHandles = (m : Machine) → IsProductive m → (q t r : ℕ) →
    Reduces m q t r ↔ HasHandle m q t r
