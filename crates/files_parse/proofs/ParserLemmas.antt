-- The newest states of a stack, and what an action makes of them.
use Rattle.std.proofs.Common.{Some, ◌≡◌, ℕ, ◌+◌, ◌-◌, inl, inr, List, [], ◌∷◌, ◌++◌, length, drop, take, get_or, reverse, slice_get, ap, sym, subst, ◌∙◌, arith}
use Rattle.std.proofs.lemmas.Bool.{cases_lt}
use Rattle.std.proofs.lemmas.List.{drop_all, drop_at, length-drop, length-reverse, length-take-le, reverse-append, take-append-drop, take_all, take_more}
use Rattle.std.proofs.lemmas.Option.{same_Some}
use Rattle.vob_lr.specs.Lookaheads.{HasMove}
use Rattle.vob_lr.specs.Parses.{top}
use Rattle.vob_lr.specs.Tables.{TableView, chosen_at}
use Rattle.vob_lr.specs.declared.grammar.Rule.{Rule}
use Rattle.vob_lr.specs.declared.grammar.Symbol.TheVariants.{Nonterminal}
use Rattle.vob_lr.specs.declared.table.Action.TheVariants.{Reduce}
use Rattle.files_parse.specs.Stacks.{ReducesBy, Stays}

-- the two newest
pub two_newest : (xs : List ℕ) (depth : ℕ) → length xs ≡ depth + 2 →
    (rest : List ℕ) × (reverse xs ≡ get_or xs (depth + 1) 0 ∷ get_or xs depth 0 ∷ rest) × (length rest ≡ depth)
two_newest xs depth long =
    let a = get_or xs depth 0 in
    let b = get_or xs (depth + 1) 0 in
    let whole = sym (take_all (depth + 1 + 1) xs (omega (arith, long)))
    ∙ take_more xs (depth + 1) 0 (omega (arith, long))
    ∙ ap (λ (l : List ℕ). l ++ b ∷ []) (take_more xs depth 0 (omega (arith, long))) in (
      reverse (take depth xs),
      ap reverse whole ∙ reverse-append (take depth xs ++ a ∷ []) (b ∷ [])
          ∙ ap (λ (l : List ℕ). b ∷ l) (reverse-append (take depth xs) (a ∷ [])),
      length-reverse (take depth xs) ∙ length-take-le depth xs (omega (arith, long)),
    )

-- what is left of a stack without its newest states
pub left_newest : (xs : List ℕ) (count left : ℕ) → left ≡ length xs - count →
    reverse (take left xs) ≡ drop count (reverse xs)
left_newest xs count left is =
    let long = length-reverse xs in
    let newest = reverse (drop left xs) in
    let parts : reverse xs ≡ newest ++ reverse (take left xs) =
    ap reverse (sym (take-append-drop left xs)) ∙ reverse-append (take left xs) (drop left xs) in
    elim (cases_lt count (length xs)) [
      | inl less ↦
          sym (ap (drop count) parts ∙ drop_at newest (reverse (take left xs)) count
          (omega (arith, is, less, length-reverse (drop left xs), length-drop left xs)))
      | inr past ↦
          let none : left ≡ 0 = omega (arith, is, past) in
          ap (λ (n : ℕ). reverse (take n xs)) none ∙ sym (drop_all count (reverse xs) (omega (arith, past, long)))
    ]

module _ (table : TableView) (r : ℕ) where
  -- no state follows by a rule
  pub no_reduction : (rule : Rule) (xs left : List ℕ) → slice_get table.machine.grammar.rules.items r ≡ Some rule →
      left ≡ drop (length rule.right.items) xs →
      ((p : ℕ) → ¬ HasMove table.machine.moves (top left) (Nonterminal rule.left) p) → (ys : List ℕ) →
      ¬ ReducesBy table r xs ys
  no_reduction rule xs left is left_is none ys by =
      let same = same_Some by.rule rule (sym by.is ∙ is) in
      none by.state (rw (left_is) (subst
      (λ (x : Rule). HasMove table.machine.moves (top (drop (length x.right.items) xs)) (Nonterminal x.left) by.state)
      same by.move))

  -- so that no action follows, if it was the rule to reduce by
  pub stays_reduced : (t : ℕ) (xs : List ℕ) → chosen_at table.cells (top xs) t ≡ Some (Reduce r) →
      ((ys : List ℕ) → ¬ ReducesBy table r xs ys) → Stays table t xs
  stays_reduced t xs acts none = record {
    no_rule = λ s ys is by.
        let same : s ≡ r = cc in none ys (subst (λ (k : ℕ). ReducesBy table k xs ys) same by);
    no_shift = λ p is. absurd (cc);
  }
