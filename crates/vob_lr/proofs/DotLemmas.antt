-- Items by what stands behind their dots.
use Rattle.std.proofs.Common.{◌≡◌, ℕ, zero, suc, ◌+◌, ◌≤◌, List, [], ◌∷◌, length, drop, Some, slice_get, refl, sym, ap, ◌∙◌, subst, arith, add-one}
use Rattle.std.proofs.lemmas.List.{drop_all}
use Rattle.std.proofs.lemmas.Option.{same_Some, slice_get_within}
use Rattle.vob_lr.specs.ItemSets.{Opens}
use Rattle.vob_lr.specs.Items.{Completes, HasNext, IsItem, first_item}
use Rattle.vob_lr.specs.Lookaheads.{HasNextThen}
use Rattle.vob_lr.specs.Nesting.{Replaces}
use Rattle.vob_lr.specs.declared.grammar.Rule.{Rule}
use Rattle.vob_lr.specs.declared.grammar.Symbol.{Symbol}
use Rattle.vob_lr.specs.declared.grammar.Symbol.TheVariants.{Nonterminal}
use Rattle.vob_lr.specs.declared.items.Item.{Item}
use Rattle.vob_lr.proofs.ItemLemmas.{next_is, one_item}

-- the element before which a list is cut
pub drop_here : (A : Type 0) (xs : List A) (n : ℕ) (y : A) (ys : List A) → drop n xs ≡ y ∷ ys →
    (slice_get xs n ≡ Some y) × (drop (suc n) xs ≡ ys)
drop_here A [] zero y ys h = absurd (cc)
drop_here A [] (suc n) y ys h = absurd (cc)
drop_here A (x ∷ xs) zero y ys h =
    let first : x ≡ y = cc in
    let rest : xs ≡ ys = cc in
    (ap Some first, rest)
drop_here A (x ∷ xs) (suc n) y ys h = drop_here A xs n y ys h

slice_get-drop : (xs : List Symbol) (n : ℕ) → slice_get xs n ≡ slice_get (drop n xs) 0
slice_get-drop xs zero = refl
slice_get-drop [] (suc n) = refl
slice_get-drop (x ∷ xs) (suc n) = slice_get-drop xs n

-- there is nothing behind all
drop_none : (xs : List Symbol) (n : ℕ) → n ≤ length xs → drop n xs ≡ [] → n ≡ length xs
drop_none [] n less none = omega (arith, less)
drop_none (x ∷ xs) zero less none = absurd (cc)
drop_none (x ∷ xs) (suc n) less none =
    let rest = drop_none xs n (omega (arith, less)) none in omega (arith, rest)

-- item i is rule r, behind whose dot these symbols stand
pub record IsBefore (rules : List Rule) (i r : ℕ) (xs : List Symbol) : Type 0 where
  pub rule : Rule
  pub is : slice_get rules r ≡ Some rule
  pub dot : ℕ
  pub inside : dot ≤ length rule.right.items
  pub rest : drop dot rule.right.items ≡ xs
  pub number : first_item rules r + dot ≡ i

module _ (rules : List Rule) where
  -- the sides of the rule with a number
  pub same_sides : (r e : ℕ) (right : List Symbol) (rule : Rule) → Replaces rules r e right →
      slice_get rules r ≡ Some rule → (rule.left ≡ e) × (rule.right.items ≡ right)
  same_sides r e right rule (own, at, left, symbols) is =
      let same = same_Some rule own (sym is ∙ at) in
      (ap (λ (x : Rule). x.left) same ∙ left, ap (λ (x : Rule). x.right.items) same ∙ symbols)

  abbrev pub item_of : {i r : ℕ} {xs : List Symbol} (h : IsBefore rules i r xs) →
      IsItem rules i (record { rule = r; dot = h.dot })
  item_of h = record { rule = h.rule; is = h.is; dot = h.inside; number = h.number }

  pub opening : (r e : ℕ) (right : List Symbol) → Replaces rules r e right →
      IsBefore rules (first_item rules r) r right
  opening r e right (rule, is, left, same) = record {
    rule = rule;
    is = is;
    dot = 0;
    inside = omega arith;
    rest = same;
    number = omega arith;
  }

  pub opens : (r e : ℕ) (right : List Symbol) → Replaces rules r e right →
      Opens rules e (first_item rules r)
  opens r e right (rule, is, left, same) = (r, rule, is, left, refl)

  -- the next symbol is the first of them
  pub next_of : {i r : ℕ} {x : Symbol} {xs : List Symbol} → IsBefore rules i r (x ∷ xs) → HasNext rules i x
  next_of {x = x} h = record {
    item = record { rule = _; dot = h.dot };
    is = item_of h;
    next = slice_get-drop h.rule.right.items h.dot ∙ ap (λ ys. slice_get ys 0) h.rest;
  }

  pub past : {i r : ℕ} {x : Symbol} {xs : List Symbol} → IsBefore rules i r (x ∷ xs) →
      IsBefore rules (i + 1) r xs
  past {x = x} {xs = xs} h =
      let both = drop_here Symbol h.rule.right.items h.dot x xs h.rest in
      let less = slice_get_within h.rule.right.items h.dot x both.0 in record {
        rule = h.rule;
        is = h.is;
        dot = h.dot + 1;
        inside = omega (arith, less);
        rest = subst (λ (n : ℕ). drop n h.rule.right.items ≡ xs) (sym (add-one h.dot)) both.1;
        number = omega (arith, h.number);
      }

  pub next_then : {i r a : ℕ} {xs : List Symbol} → IsBefore rules i r (Nonterminal a ∷ xs) →
      HasNextThen rules i a xs
  unfolding next_of past
  next_then h = record { next = next_of h; then_rest = (past h).rest }

  -- and only that is
  next_only : {i r : ℕ} {xs : List Symbol} → IsBefore rules i r xs → (y : Symbol) → HasNext rules i y →
      slice_get xs 0 ≡ Some y
  next_only {i} {r} {xs} h y next =
      let item : Item = record { rule = r; dot = h.dot } in
      sym (slice_get-drop h.rule.right.items h.dot ∙ ap (λ ys. slice_get ys 0) h.rest)
      ∙ (next_is rules i item (item_of h) y).1 next

  pub next_same : {i r : ℕ} {x : Symbol} {xs : List Symbol} → IsBefore rules i r (x ∷ xs) → (y : Symbol) →
      HasNext rules i y → x ≡ y
  next_same {x = x} h y next = same_Some x y (next_only h y next)

  pub next_none : {i r : ℕ} → IsBefore rules i r [] → (y : Symbol) → HasNext rules i y → ⊥
  next_none h y next = let none = next_only h y next in cc

  pub one_next : (i : ℕ) (x y : Symbol) → HasNext rules i x → HasNext rules i y → x ≡ y
  one_next i x y h next = same_Some x y (sym h.next ∙ (next_is rules i h.item h.is y).1 next)

  -- with none behind its dot it is complete
  pub complete_of : {i r : ℕ} → IsBefore rules i r [] → Completes rules r i
  complete_of h = record {
    item = record { rule = _; dot = h.dot };
    is = item_of h;
    rule = refl;
    dot = drop_none h.rule.right.items h.dot h.inside h.rest;
  }

  same_rule : {i r s : ℕ} {xs : List Symbol} → IsBefore rules i r xs → Completes rules s i → r ≡ s
  same_rule {i} {r} h done =
      ap (λ (x : Item). x.rule) (one_item rules i (record { rule = r; dot = h.dot }) done.item (item_of h) done.is)
      ∙ done.rule

  pub complete_rule : {i r s : ℕ} → IsBefore rules i r [] → Completes rules s i → s ≡ r
  complete_rule h done = sym (same_rule h done)

  pub complete_not : {i r s : ℕ} {x : Symbol} {xs : List Symbol} → IsBefore rules i r (x ∷ xs) →
      Completes rules s i → ⊥
  complete_not {x = x} h done =
      let long = ap length (drop_all done.item.dot done.is.rule.right.items (omega (arith, done.dot))) in
      let next = (next_is rules _ done.item done.is x).1 (next_of h) in
      let less = slice_get_within done.is.rule.right.items done.item.dot x next in
      omega (arith, less, done.dot)
