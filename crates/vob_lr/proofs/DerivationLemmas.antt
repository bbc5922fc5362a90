-- Derivations, and the three ways in which the sets of a grammar speak of them.
use Rattle.std.proofs.Common.{◌≡◌, ℕ, ◌⊎◌, inl, inr, List, [], ◌∷◌, ◌++◌, map, Some, slice_get, refl, sym, ap, ◌∙◌, subst}
use Rattle.std.proofs.lemmas.List.{append-nil, append_assoc}
use Rattle.std.proofs.lemmas.Option.{get_or_from_slice_get, slice_get_within}
use Rattle.vob_lr.specs.Derivations.{BeginningIsDerived, Derives, DerivesBy, DerivesInOne, EmptyIsDerived, FollowingIsDerived}
use Rattle.vob_lr.specs.Derivations.DerivesInOne.{replaced}
use Rattle.vob_lr.specs.Derivations.Derives.{itself, further}
use Rattle.vob_lr.specs.Derivations.DerivesBy.{nothing as last, further as then_by}
use Rattle.vob_lr.specs.Grammar.{BecomesEmpty, BeginsWith, Follows, HasRule}
use Rattle.vob_lr.specs.Grammar.BecomesEmpty.{nothing, by_rule as by_empty}
use Rattle.vob_lr.specs.Grammar.BeginsWith.{here, by_rule, behind}
use Rattle.vob_lr.specs.Grammar.Follows.{in_rule, at_end}
use Rattle.vob_lr.specs.declared.grammar.Rule.{Rule}
use Rattle.vob_lr.specs.declared.grammar.Symbol.{Symbol}
use Rattle.vob_lr.specs.declared.grammar.Symbol.TheVariants.{Terminal, Nonterminal}
use Rattle.vob_lr.proofs.EmptyLemmas.{BecomesEmpty-append}
use Rattle.vob_lr.proofs.FirstLemmas.{BeginsWith-append}

-- ---- where a symbol of two lists stands

pub cut : {A : Type 0} (xs ys us : List A) (x : A) (vs : List A) → xs ++ ys ≡ us ++ x ∷ vs →
    ((m : List A) × (xs ≡ us ++ x ∷ m) × (vs ≡ m ++ ys))
    ⊎ ((m : List A) × (us ≡ xs ++ m) × (ys ≡ m ++ x ∷ vs))
cut [] ys us x vs h = inr (us, refl, h)
cut (z ∷ xs) ys [] x vs h =
    let first : z ≡ x = cc in
    let rest : xs ++ ys ≡ vs = cc in
    inl (xs, ap (λ w. w ∷ xs) first, sym rest)
cut (z ∷ xs) ys (u ∷ us) x vs h =
    let first : z ≡ u = cc in
    let rest : xs ++ ys ≡ us ++ x ∷ vs = cc in
    elim (cut xs ys us x vs rest) [
      | inl left ↦ inl (left.0, ap (λ w. w ∷ xs) first ∙ ap (λ ws. u ∷ ws) left.1, left.2)
      | inr right ↦
          inr (right.0, ap (λ w. w ∷ us) (sym first) ∙ ap (λ ws. z ∷ ws) right.1, right.2)
    ]

-- one symbol has none behind it
last_alone : {A : Type 0} (us : List A) (y x : A) (vs : List A) → y ∷ [] ≡ us ++ x ∷ vs → vs ≡ []
last_alone [] y x vs h = cc
last_alone (u ∷ []) y x vs h = absurd (cc)
last_alone (u ∷ w ∷ us) y x vs h = absurd (cc)

moved : {A : Type 0} (before ms rest : List A) (x : A) →
    before ++ x ∷ (ms ++ rest) ≡ ((before ++ x ∷ []) ++ ms) ++ rest
moved before ms rest x = simp append_assoc

regrouped : {A : Type 0} (us before after rest : List A) (x : A) →
    us ++ ((before ++ x ∷ after) ++ rest) ≡ ((us ++ before) ++ x ∷ []) ++ (after ++ rest)
regrouped us before after rest x = simp append_assoc

module _ {rules : List Rule} where
  -- ---- derivations between others, and one after another

  step_between : (l r : List Symbol) {xs ys : List Symbol} → DerivesInOne rules xs ys →
      DerivesInOne rules (l ++ (xs ++ r)) (l ++ (ys ++ r))
  step_between l r {xs} {ys} (replaced {a} {right} before after has is becomes) =
      replaced (l ++ before) (after ++ r) has
      (ap (λ zs. l ++ (zs ++ r)) is
      ∙ ap (λ zs. l ++ zs) (append_assoc before (Nonterminal a ∷ after) r)
      ∙ sym (append_assoc l before (Nonterminal a ∷ (after ++ r))))
      (ap (λ zs. l ++ (zs ++ r)) becomes
      ∙ ap (λ zs. l ++ zs) (append_assoc before (right ++ after) r)
      ∙ ap (λ zs. l ++ (before ++ zs)) (append_assoc right after r)
      ∙ sym (append_assoc l before (right ++ (after ++ r))))

  pub between : (l r : List Symbol) {xs ys : List Symbol} → Derives rules xs ys →
      Derives rules (l ++ (xs ++ r)) (l ++ (ys ++ r))
  between l r itself = itself
  between l r (further d step) = further (between l r d) (step_between l r step)

  pub after_that : {xs ys zs : List Symbol} → Derives rules xs ys → Derives rules ys zs →
      Derives rules xs zs
  after_that d itself = d
  after_that d (further e step) = further (after_that d e) step

  -- a rule is a derivation
  pub by_one : {a : ℕ} {right : List Symbol} (l r : List Symbol) → HasRule rules a right →
      Derives rules (l ++ Nonterminal a ∷ r) (l ++ (right ++ r))
  by_one l r has = further itself (replaced l r has refl refl)

  -- ---- what becomes empty

  empty_derives : {xs : List Symbol} → BecomesEmpty rules xs → Derives rules xs []
  empty_derives nothing = itself
  empty_derives (by_empty {a} {right} {rest} has empty others) =
      after_that (by_one [] rest has)
      (after_that (between [] rest (empty_derives empty)) (empty_derives others))

  pub empty_parts : (xs ys : List Symbol) → BecomesEmpty rules (xs ++ ys) →
      BecomesEmpty rules xs × BecomesEmpty rules ys
  empty_parts [] ys empty = (nothing, empty)
  empty_parts (x ∷ xs) ys (by_empty has empty others) =
      let parts = empty_parts xs ys others in
      (by_empty has empty parts.0, parts.1)

  pub empty_before : {xs ys : List Symbol} → DerivesInOne rules xs ys → BecomesEmpty rules ys →
      BecomesEmpty rules xs
  empty_before {xs} {ys} (replaced {a} {right} before after has is becomes) empty =
      let outer = empty_parts before (right ++ after)
      (subst (λ (zs : List Symbol). BecomesEmpty rules zs) becomes empty) in
      let inner = empty_parts right after outer.1 in
      subst (λ (zs : List Symbol). BecomesEmpty rules zs) (sym is)
      (BecomesEmpty-append (Nonterminal a ∷ after) outer.0 (by_empty has inner.0 inner.1))

  empty_from : {xs ys : List Symbol} → Derives rules xs ys → BecomesEmpty rules ys →
      BecomesEmpty rules xs
  empty_from itself empty = empty
  empty_from (further d step) empty = empty_from d (empty_before step empty)

  -- ---- what begins

  begin_derives : {t : ℕ} {xs : List Symbol} → BeginsWith rules t xs →
      (rest : List Symbol) × Derives rules xs (Terminal t ∷ rest)
  begin_derives {t} (here {rest}) = (rest, itself)
  begin_derives {t} (by_rule {a} {right} {rest} has begins) =
      let found = begin_derives begins in
      (found.0 ++ rest, after_that (by_one [] rest has) (between [] rest found.1))
  begin_derives {t} (behind {x} {rest} empty begins) =
      let found = begin_derives begins in
      (found.0, after_that (between [] rest (empty_derives empty)) found.1)

  -- the first of two lists begins so, or can become empty
  pub begin_parts : {t : ℕ} (xs ys : List Symbol) → BeginsWith rules t (xs ++ ys) →
      BeginsWith rules t xs ⊎ (BecomesEmpty rules xs × BeginsWith rules t ys)
  begin_parts [] ys begins = inr (nothing, begins)
  begin_parts (x ∷ xs) ys here = inl here
  begin_parts (x ∷ xs) ys (by_rule has begins) = inl (by_rule has begins)
  begin_parts (x ∷ xs) ys (behind empty begins) = elim (begin_parts xs ys begins) [
    | inl first ↦ inl (behind empty first)
    | inr both ↦ inr (BecomesEmpty-append xs empty both.0, both.1)
  ]

  begin_behind : {t : ℕ} {xs : List Symbol} (ys : List Symbol) → BecomesEmpty rules xs →
      BeginsWith rules t ys → BeginsWith rules t (xs ++ ys)
  begin_behind ys nothing begins = begins
  begin_behind ys (by_empty has empty others) begins =
      behind (by_empty has empty nothing) (begin_behind ys others begins)

  -- a nonterminal in place of a right side
  pub begin_replaced : {t a : ℕ} {right : List Symbol} (before after : List Symbol) →
      HasRule rules a right → BeginsWith rules t (before ++ (right ++ after)) →
      BeginsWith rules t (before ++ Nonterminal a ∷ after)
  begin_replaced {t} {a} {right} before after has begins =
      elim (begin_parts before (right ++ after) begins) [
        | inl first ↦ BeginsWith-append (Nonterminal a ∷ after) first
        | inr both ↦ begin_behind (Nonterminal a ∷ after) both.0
            (elim (begin_parts right after both.1) [
              | inl inside ↦ by_rule has inside
              | inr past ↦ behind (by_empty has past.0 nothing) past.1
            ])
      ]

  begin_from : {t : ℕ} {xs ys : List Symbol} → Derives rules xs ys → BeginsWith rules t ys →
      BeginsWith rules t xs
  begin_from itself begins = begins
  begin_from {t} (further d (replaced before after has is becomes)) begins =
      begin_from d (subst (λ (zs : List Symbol). BeginsWith rules t zs) (sym is)
      (begin_replaced before after has
      (subst (λ (zs : List Symbol). BeginsWith rules t zs) becomes begins)))

  -- ---- what follows

  alone : {a : ℕ} {right : List Symbol} → HasRule rules a right →
      Derives rules (Nonterminal a ∷ []) right
  alone {a} {right} has =
      subst (λ (zs : List Symbol). Derives rules (Nonterminal a ∷ []) zs) (append-nil right)
      (by_one [] [] has)

  beyond : (before : List Symbol) (a : ℕ) {xs ys : List Symbol} → Derives rules xs ys →
      Derives rules (before ++ Nonterminal a ∷ xs) (before ++ Nonterminal a ∷ ys)
  beyond before a d =
      simp (append_assoc, append-nil) at (between (before ++ Nonterminal a ∷ []) [] d)

  follow_derives : {t a : ℕ} → Follows rules t a →
      (b : ℕ) × (before : List Symbol) × (after : List Symbol)
      × Derives rules (Nonterminal b ∷ []) (before ++ Nonterminal a ∷ Terminal t ∷ after)
  follow_derives {t} {a} (in_rule {b = b} before after has begins) =
      let found = begin_derives begins in
      (b, before, found.0, after_that (alone has) (beyond before a found.1))
  follow_derives {t} {a} (at_end {b = b} before after has empty f) =
      let (c, us, rest, d) = follow_derives f in
      let tail = Terminal t ∷ rest in
      let vanishes = between ((us ++ before) ++ Nonterminal a ∷ []) tail (empty_derives empty) in (
        c,
        us ++ before,
        rest,
        after_that d (after_that (by_one us tail has)
            (subst (λ (zs : List Symbol). Derives rules zs ((us ++ before) ++ Nonterminal a ∷ tail))
            (sym (regrouped us before after tail (Nonterminal a)))
            (subst (λ (zs : List Symbol). Derives rules
            (((us ++ before) ++ Nonterminal a ∷ []) ++ (after ++ tail)) zs)
            (append_assoc (us ++ before) (Nonterminal a ∷ []) tail) vanishes))),
      )

  -- nothing begins no symbols
  begins_nothing : {t : ℕ} → BeginsWith rules t [] → ⊥
  begins_nothing h = elim h [ ]

  follow_from : {b : ℕ} {xs : List Symbol} → Derives rules (Nonterminal b ∷ []) xs →
      (t a : ℕ) (us vs : List Symbol) → xs ≡ us ++ Nonterminal a ∷ vs → BeginsWith rules t vs →
      Follows rules t a
  follow_from {b} itself t a us vs eq begins =
      absurd (begins_nothing (subst (λ (zs : List Symbol). BeginsWith rules t zs)
      (last_alone us (Nonterminal b) (Nonterminal a) vs eq) begins))
  follow_from (further d (replaced {a = c} {right} before after has is becomes)) t a us vs eq begins =
      elim (cut before (right ++ after) us (Nonterminal a) vs (sym becomes ∙ eq)) [
        | inl left ↦
            follow_from d t a us (left.0 ++ Nonterminal c ∷ after)
            (is ∙ ap (λ zs. zs ++ Nonterminal c ∷ after) left.1
            ∙ append_assoc us (Nonterminal a ∷ left.0) (Nonterminal c ∷ after))
            (begin_replaced left.0 after has
            (subst (λ (zs : List Symbol). BeginsWith rules t zs) left.2 begins))
        | inr past ↦ elim (cut right after past.0 (Nonterminal a) vs past.2) [
          | inl inside ↦
              let rule = subst (λ (zs : List Symbol). HasRule rules c zs) inside.1 has in
              elim (begin_parts inside.0 after
              (subst (λ (zs : List Symbol). BeginsWith rules t zs) inside.2 begins)) [
                | inl first ↦ in_rule past.0 inside.0 rule first
                | inr both ↦
                    at_end past.0 inside.0 rule both.0 (follow_from d t c before after is both.1)
              ]
          | inr later ↦
              follow_from d t a ((before ++ Nonterminal c ∷ []) ++ later.0) vs
              (is ∙ ap (λ zs. before ++ Nonterminal c ∷ zs) later.2
              ∙ moved before later.0 (Nonterminal a ∷ vs) (Nonterminal c)) begins
        ]
      ]

pub empty_derived : EmptyIsDerived
empty_derived rules xs = (empty_derives, (λ d. empty_from d nothing))

pub beginning_derived : BeginningIsDerived
beginning_derived rules t xs = (begin_derives, (λ found. begin_from found.1 here))

pub following_derived : FollowingIsDerived
following_derived rules t a = (
  follow_derives,
  (λ found. follow_from found.3 t a found.1 (Terminal t ∷ found.2) refl here),
)

-- a rule that is there is one of a nonterminal
pub has_rule : (rules : List Rule) (r : ℕ) (rule : Rule) → slice_get rules r ≡ Some rule →
    HasRule rules rule.left rule.right.items
has_rule rules r rule is = (
  rule,
  (r, slice_get_within rules r rule is, get_or_from_slice_get rules r rule rule is),
  refl,
  refl,
)

pub rightmost_derived : (rules : List Rule) (tokens : List ℕ) (xs : List Symbol) (by : List ℕ) →
    DerivesBy rules tokens xs by → Derives rules xs (map Terminal tokens)
rightmost_derived rules tokens xs by (last is) =
    subst (λ (ys : List Symbol). Derives rules xs ys) is itself
rightmost_derived rules tokens xs by (then_by {r = r} {rule = rule} before after there is d) =
    let step = by_one before (map Terminal after) (has_rule rules r rule there) in
    subst (λ (ys : List Symbol). Derives rules ys (map Terminal tokens)) (sym is)
    (after_that step (rightmost_derived rules tokens _ _ d))
