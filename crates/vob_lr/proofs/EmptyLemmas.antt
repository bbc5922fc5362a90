-- Symbols that become empty, and a set of nonterminals that do.
use Rattle.std.proofs.Common.{◌≡◌, ◌↔◌, ℕ, Bool, true, List, [], ◌∷◌, ◌++◌, refl, sym, subst, inl, inr, ◌∙◌}
use Rattle.std.specs.List.{All, Contains}
use Rattle.std.proofs.lemmas.Bool.{cases_eq}
use Rattle.std.proofs.lemmas.List.Elements.{All-nil, All-cons, All-contains, All-head, All-tail}
use Rattle.vob_block.specs.Packing.{item}
use Rattle.vob.specs.Bits.{IsWritten}
use Rattle.vob_lr.specs.Grammar.{BecomesEmpty}
use Rattle.vob_lr.specs.Grammar.BecomesEmpty.{nothing, by_rule}
use Rattle.vob_lr.specs.Passes.{AreEmptied, HasNull, IsNull, IsNullClosed}
use Rattle.vob_lr.specs.declared.grammar.Rule.{Rule}
use Rattle.vob_lr.specs.declared.grammar.Symbol.{Symbol}
use Rattle.vob_lr.specs.declared.grammar.Symbol.TheVariants.{Terminal, Nonterminal}

module _ {rules : List Rule} where
  pub BecomesEmpty-append : {xs : List Symbol} (ys : List Symbol) → BecomesEmpty rules xs →
      BecomesEmpty rules ys → BecomesEmpty rules (xs ++ ys)
  BecomesEmpty-append ys nothing empty = empty
  BecomesEmpty-append ys (by_rule has right rest) empty =
      by_rule has right (BecomesEmpty-append ys rest empty)

  -- a rule whose right side becomes empty
  pub BecomesEmpty-rule : (rule : Rule) → Contains rules rule →
      BecomesEmpty rules rule.right.items → BecomesEmpty rules (Nonterminal rule.left ∷ [])
  BecomesEmpty-rule rule within empty = by_rule (rule, within, refl, refl) empty nothing

module _ (rules : List Rule) (nullable : List Bool) where
  -- symbols of a set of nonterminals that do
  pub BecomesEmpty-null : AreEmptied rules nullable → (xs : List Symbol) →
      All (IsNull nullable) xs → BecomesEmpty rules xs
  BecomesEmpty-null sound [] all = nothing
  BecomesEmpty-null sound (Terminal t ∷ xs) all =
      absurd (All-head (IsNull nullable) (Terminal t) xs all)
  BecomesEmpty-null sound (Nonterminal a ∷ xs) all =
      BecomesEmpty-append xs (sound a (All-head (IsNull nullable) (Nonterminal a) xs all))
      (BecomesEmpty-null sound xs (All-tail (IsNull nullable) (Nonterminal a) xs all))

  -- what becomes empty is of a set that is closed under the rules
  pub null_all : IsNullClosed rules nullable → {xs : List Symbol} → BecomesEmpty rules xs →
      All (IsNull nullable) xs
  null_all closed nothing = All-nil (IsNull nullable)
  null_all closed (by_rule {a} {right} {rest} (rule, within, left, is) empty others) =
      let has : HasNull rule nullable =
      All-contains (λ (r : Rule). HasNull r nullable) rules rule closed within in
      let all = subst (λ (xs : List Symbol). All (IsNull nullable) xs) (sym is)
      (null_all closed empty) in
      All-cons (IsNull nullable) (Nonterminal a) rest
      (subst (λ (l : ℕ). item nullable l ≡ true) left (has all)) (null_all closed others)

  -- so a set of such nonterminals that is closed has them all
  pub null_each : AreEmptied rules nullable → IsNullClosed rules nullable → (a : ℕ) →
      (item nullable a ≡ true) ↔ BecomesEmpty rules (Nonterminal a ∷ [])
  null_each sound closed a = (
    sound a,
    (λ empty. All-head (IsNull nullable) (Nonterminal a) [] (null_all closed empty)),
  )

  -- a set that gains the left side of a rule of which it has all of the right side
  pub AreEmptied-written : (rule : Rule) (after : List Bool) → Contains rules rule →
      All (IsNull nullable) rule.right.items → IsWritten nullable rule.left true after →
      AreEmptied rules nullable → AreEmptied rules after
  AreEmptied-written rule after within all w sound a there = elim (cases_eq a rule.left) [
    | inl here ↦
        subst (λ (n : ℕ). BecomesEmpty rules (Nonterminal n ∷ [])) (sym here)
        (BecomesEmpty-rule rule within (BecomesEmpty-null sound rule.right.items all))
    | inr other ↦ sound a (sym (w.others a other) ∙ there)
  ]
