-- What can be empty, begin and follow in a grammar of three rules, worked out by hand and then from
-- the definitions. The nonterminal 0 becomes the nonterminal 1 and then the terminal 1, and the
-- nonterminal 1 becomes the terminal 0 or nothing.
use Rattle.std.proofs.Common.{◌≡◌, ◌≢◌, ℕ, zero, suc, ◌⊎◌, inl, inr, List, [], ◌∷◌, ◌++◌, refl, sym, ◌∙◌, ap, subst, arith, lit<}
use Rattle.vob_lr.specs.Grammar.{BecomesEmpty, BeginsWith, Follows, HasRule}
use Rattle.vob_lr.specs.Grammar.BecomesEmpty.{nothing, by_rule as by_empty}
use Rattle.vob_lr.specs.Grammar.BeginsWith.{here, by_rule, behind}
use Rattle.vob_lr.specs.Grammar.Follows.{in_rule, at_end}
use Rattle.vob_lr.specs.declared.grammar.Rule.{Rule}
use Rattle.vob_lr.specs.declared.grammar.Symbol.{Symbol}
use Rattle.vob_lr.specs.declared.grammar.Symbol.TheVariants.{Terminal, Nonterminal}

abbrev right_0 : List Symbol
right_0 = Nonterminal 1 ∷ Terminal 1 ∷ []

abbrev right_1 : List Symbol
right_1 = Terminal 0 ∷ []

-- a rule with these sides
record HasSides (rule : Rule) (left : ℕ) (right : List Symbol) : Type 0 where
  on_left : rule.left ≡ left
  on_right : rule.right.items ≡ right

-- what comes after or begins a terminal, by any rules
module _ {rules : List Rule} where
  pub terminal_stays : (t : ℕ) (rest : List Symbol) → BecomesEmpty rules (Terminal t ∷ rest) → ⊥
  terminal_stays t rest empty = elim empty [ ]

  pub begins_terminal : {t u : ℕ} {rest : List Symbol} → BeginsWith rules t (Terminal u ∷ rest) → t ≡ u
  begins_terminal here = refl
  begins_terminal {t} {u} (behind empty begins) = absurd (terminal_stays u [] empty)

  begins_nothing : {t : ℕ} → BeginsWith rules t [] → ⊥
  begins_nothing begins = elim begins [ ]

-- only the first symbol of the first right side is the nonterminal 1
behind_one : (before after : List Symbol) (a : ℕ) → before ++ Nonterminal a ∷ after ≡ right_0 →
    after ≡ Terminal 1 ∷ []
behind_one [] after a is = cc
behind_one (x ∷ []) after a is = absurd (cc)
behind_one (x ∷ y ∷ []) after a is = absurd (cc)
behind_one (x ∷ y ∷ z ∷ before) after a is = absurd (cc)

behind_none : (before after : List Symbol) (a : ℕ) → before ++ Nonterminal a ∷ after ≡ right_1 → ⊥
behind_none [] after a is = cc
behind_none (x ∷ []) after a is = cc
behind_none (x ∷ y ∷ before) after a is = cc

behind_empty : (before after : List Symbol) (a : ℕ) → before ++ Nonterminal a ∷ after ≡ [] → ⊥
behind_empty [] after a is = cc
behind_empty (x ∷ before) after a is = cc

module _ (a b c : Rule) (a_is : HasSides a 0 right_0) (b_is : HasSides b 1 right_1)
    (c_is : HasSides c 1 []) where
  abbrev rules : List Rule
  rules = a ∷ b ∷ c ∷ []

  has_0 : HasRule rules 0 right_0
  has_0 = (a, (0, lit< tt, refl), a_is.on_left, a_is.on_right)

  has_1 : HasRule rules 1 right_1
  has_1 = (b, (1, lit< tt, refl), b_is.on_left, b_is.on_right)

  has_none : HasRule rules 1 []
  has_none = (c, (2, lit< tt, refl), c_is.on_left, c_is.on_right)

  -- each rule is one of the three
  which_rule : (n : ℕ) (right : List Symbol) → HasRule rules n right →
      (right ≡ right_0) ⊎ ((right ≡ right_1) ⊎ ((n ≡ 1) × (right ≡ [])))
  which_rule n right (rule, (zero, less, is), left, items) =
      inl (sym items ∙ ap (λ (r : Rule). r.right.items) (sym is) ∙ a_is.on_right)
  which_rule n right (rule, (suc zero, less, is), left, items) =
      inr (inl (sym items ∙ ap (λ (r : Rule). r.right.items) (sym is) ∙ b_is.on_right))
  which_rule n right (rule, (suc (suc zero), less, is), left, items) =
      inr (inr (
        sym left ∙ ap (λ (r : Rule). r.left) (sym is) ∙ c_is.on_left,
        sym items ∙ ap (λ (r : Rule). r.right.items) (sym is) ∙ c_is.on_right,
      ))
  which_rule n right (rule, (suc (suc (suc k)), less, is), left, items) =
      absurd (omega (arith, less))

  -- ---- the nonterminal 1 can be empty, and 0 can't

  empty-1 : BecomesEmpty rules (Nonterminal 1 ∷ [])
  empty-1 = by_empty has_none nothing nothing

  right_stays : BecomesEmpty rules right_0 → ⊥
  right_stays (by_empty has empty others) = terminal_stays 1 [] others

  not_empty : (n : ℕ) → n ≢ 1 → BecomesEmpty rules (Nonterminal n ∷ []) → ⊥
  not_empty n other (by_empty {right = right} has empty others) = elim (which_rule n right has) [
    | inl first ↦ right_stays (subst (λ (xs : List Symbol). BecomesEmpty rules xs) first empty)
    | inr more ↦ elim more [
      | inl second ↦
          terminal_stays 0 [] (subst (λ (xs : List Symbol). BecomesEmpty rules xs) second empty)
      | inr third ↦ other third.0
    ]
  ]

  -- ---- both terminals begin the nonterminal 0, and 0 begins 1

  begins-0-0 : BeginsWith rules 0 (Nonterminal 0 ∷ [])
  begins-0-0 = by_rule has_0 (by_rule has_1 here)

  begins-1-0 : BeginsWith rules 1 (Nonterminal 0 ∷ [])
  begins-1-0 = by_rule has_0 (behind empty-1 here)

  begins-0-1 : BeginsWith rules 0 (Nonterminal 1 ∷ [])
  begins-0-1 = by_rule has_1 here

  -- ---- the terminal 1 alone follows the nonterminal 1

  follows-1-1 : Follows rules 1 1
  follows-1-1 = in_rule [] (Terminal 1 ∷ []) has_0 here

  which_behind : (n m : ℕ) (before after : List Symbol) →
      HasRule rules n (before ++ Nonterminal m ∷ after) → after ≡ Terminal 1 ∷ []
  which_behind n m before after has = elim (which_rule n (before ++ Nonterminal m ∷ after) has) [
    | inl first ↦ behind_one before after m first
    | inr more ↦ elim more [
      | inl second ↦ absurd (behind_none before after m second)
      | inr third ↦ absurd (behind_empty before after m third.1)
    ]
  ]

  follows_alone : (t n : ℕ) → Follows rules t n → t ≡ 1
  follows_alone t n (in_rule {b = m} before after has begins) =
      begins_terminal (subst (λ (xs : List Symbol). BeginsWith rules t xs)
      (which_behind m n before after has) begins)
  follows_alone t n (at_end {b = m} before after has empty follows) =
      absurd (terminal_stays 1 [] (subst (λ (xs : List Symbol). BecomesEmpty rules xs)
      (which_behind m n before after has) empty))
