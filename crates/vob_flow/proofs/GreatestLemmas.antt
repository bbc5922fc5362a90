-- Greatest sets from the least ones of what they lack.
use Rattle.std.proofs.Common.{◌≡◌, ◌↔◌, ℕ, ◌<◌, ◌⊎◌, Bool, true, false, not, inl, inr}
use Rattle.std.proofs.Common.{List, [], length, get_or, Option, None, Some, refl, sym, ◌∙◌, subst, arith, eq-eqb}
use Rattle.std.specs.List.{Any}
use Rattle.std.proofs.lemmas.Bool.{cases_Bool, false≢true, false_from_ne_true, ne_eqb, not-true, not_from_false}
use Rattle.std.proofs.lemmas.List.{get_or_default}
use Rattle.vob_block.specs.Packing.{item}
use Rattle.vob.specs.Vobs.{AreOfLength}
use Rattle.vob.proofs.BitsLemmas.{row_inside}
use Rattle.vob.proofs.VobsLemmas.{of_length_at}
use Rattle.vob_rows.specs.Graph.{LeadToNodes}
use Rattle.vob_flow.specs.Available.{IsEntry}
use Rattle.vob_flow.specs.Changes.{EachBecomes, IsLacking, IsOut}
use Rattle.vob_flow.specs.Draws.{AreLeast, Comes, HaveShape, IsIn}
use Rattle.vob_flow.specs.Draws.Comes.{starts_in, drawn}
use Rattle.vob_flow.specs.Greatest.{AreGreatest, IsInAll, Misses, away}
use Rattle.vob_flow.specs.Greatest.Misses.{dropped, missed}
use Rattle.vob_flow.proofs.UnderwayLemmas.{HaveShape-trans}

pub in_or : (sets : List (List Bool)) (n v : ℕ) → IsIn sets n v ⊎ (¬ IsIn sets n v)
in_or sets n v = elim (cases_Bool (item (get_or sets n []) v)) [
  | inl on ↦ inl on
  | inr off ↦ inr (λ on. false≢true (sym off ∙ on))
]

-- ---- the mask of an entry

module _ (entry : Option ℕ) (mask : ℕ → ℕ → Bool) (n v : ℕ) where
  pub mask_at_entry : IsEntry entry n → away entry mask n v ≡ false
  mask_at_entry here = at entry here
    where
      at : (entry : Option ℕ) → IsEntry entry n → away entry mask n v ≡ false
      at None here = absurd here
      at (Some own) here = rw (eq-eqb n own here) refl

  pub mask_away : ¬ IsEntry entry n → away entry mask n v ≡ mask n v
  mask_away other = at entry other
    where
      at : (entry : Option ℕ) → ¬ IsEntry entry n → away entry mask n v ≡ mask n v
      at None other = refl
      at (Some own) other = rw (ne_eqb n own other) refl

  -- so it keeps what the mask keeps of any other node
  pub mask_keeps : (away entry mask n v ≡ true) ↔ ((¬ IsEntry entry n) × (mask n v ≡ true))
  mask_keeps = (
    (λ e.
        let other : ¬ IsEntry entry n = λ here. false≢true (sym (mask_at_entry here) ∙ e) in
        (other, sym (mask_away other) ∙ e)),
    (λ both. mask_away both.0 ∙ both.1),
  )

pub not_drops : (b : Bool) → (not b ≡ false) ↔ (b ≡ true)
not_drops true = ((λ e. refl), (λ e. refl))
not_drops false = ((λ e. absurd (false≢true (sym e))), (λ e. absurd (false≢true e)))

-- ---- from what is lacked to what is there

-- what sets don't start with
abbrev pub others_of : List (List Bool) → ℕ → ℕ → Bool
others_of starts n v = not (item (get_or starts n []) v)

module _ (places : ℕ) (next : List (List ℕ)) (mask : ℕ → ℕ → Bool) (starts lacking : List (List Bool))
    (long : AreOfLength places starts)
    (first : EachBecomes starts (IsLacking mask starts) lacking (length starts)) where
  pub start_long : (n : ℕ) → n < length starts → length (get_or starts n []) ≡ places
  start_long n less = of_length_at places starts n [] long less

  pub at_first : (n v : ℕ) → n < length starts → v < places
      → IsIn lacking n v ↔ IsLacking mask starts n v
  at_first n v less small = first.below n v less (omega (arith, small, start_long n less))

module _ (places : ℕ) (next : List (List ℕ)) (mask : ℕ → ℕ → Bool)
    (starts lacking lacks sets : List (List Bool)) (count : length next ≡ length starts)
    (long : AreOfLength places starts) (inside : LeadToNodes next (length next))
    (first : EachBecomes starts (IsLacking mask starts) lacking (length starts))
    (least : AreLeast next (others_of starts) lacking lacks)
    (last : EachBecomes lacks (IsOut lacks) sets (length lacks)) where
  lacks_shape : HaveShape starts lacks
  lacks_shape = HaveShape-trans first.shape least.solution.shape

  -- what isn't lacked is there
  there : (n v : ℕ) → n < length starts → v < places
      → IsIn sets n v ↔ (item (get_or lacks n []) v ≡ false)
  there n v less small = last.below n v (omega (arith, less, lacks_shape.count))
      (omega (arith, small, lacks_shape.long n, start_long places next mask starts lacking long first n less))

  lacks_first : (n v : ℕ) → n < length starts → v < places
      → IsIn lacking n v ↔ IsLacking mask starts n v
  lacks_first n v less small = at_first places next mask starts lacking long first n v less small

  misses : {n v : ℕ} → v < places → Comes next (others_of starts) lacking n v → Misses next mask starts n v
  misses {n} {v} small (starts_in e) =
      let both = (lacks_first n v (omega (arith, row_inside lacking n v e, first.shape.count)) small).0 e in
      dropped (λ on. false≢true (sym both.0 ∙ on)) both.1
  misses {n} {v} small (drawn keeps within c) =
      missed (λ on. false≢true (sym (not-true (item (get_or starts n []) v) keeps) ∙ on)) within
      (misses small c)

  module _ (n v : ℕ) (node : n < length next) (small : v < places) where
    less : n < length starts
    less = omega (arith, node, count)

    abbrev from : List ℕ
    from = get_or next n []

    low : (k e : ℕ) → k < length from → get_or from k e < length starts
    low k e at = omega (arith, inside n node k e at, count)

    meets : IsIn lacks n v
        ↔ (IsIn lacking n v ⊎ ((not (item (get_or starts n []) v) ≡ true)
        × Any (λ m. IsIn lacks m v) (get_or next n [])))
    meets = least.solution.meets n v

    in_all : item (get_or lacks n []) v ≡ false → item (get_or starts n []) v ≡ false
        → IsInAll sets (get_or next n []) v
    in_all none new k e at =
        let m = get_or from k e in
        (there m v (low k e at) small).1 (false_from_ne_true _ (λ lack. false≢true (sym none ∙ meets.1
        (inr (not_from_false _ new, (k, m, at, get_or_default from k _ e at, lack))))))

    pub meets_here : IsIn sets n v
        ↔ (IsIn starts n v ⊎ ((mask n v ≡ true) × IsInAll sets (get_or next n []) v))
    meets_here = (
      (λ e.
          let none = (there n v less small).0 e in
          elim (cases_Bool (item (get_or starts n []) v)) [
            | inl start ↦ inl start
            | inr new ↦ elim (cases_Bool (mask n v)) [
              | inl keeps ↦ inr (keeps, in_all none new)
              | inr drops ↦ absurd (false≢true (sym none
                  ∙ meets.1 (inl ((lacks_first n v less small).1 (new, drops)))))
            ]
          ]),
      (λ either. (there n v less small).1 (false_from_ne_true _ (λ lack. elim (meets.0 lack) [
        | inl at_start ↦
            let neither = (lacks_first n v less small).0 at_start in
            elim either [
              | inl start ↦ false≢true (sym neither.0 ∙ start)
              | inr both ↦ false≢true (sym neither.1 ∙ both.0)
            ]
        | inr new ↦ elim either [
          | inl start ↦ false≢true (sym (not-true _ new.0) ∙ start)
          | inr both ↦
              let some = new.1 in
              let is = get_or_default from some.0 some.1 some.1 some.2 ∙ some.3 in
              let m_in : IsIn sets some.1 v =
              subst (λ m. IsIn sets m v) is (both.1 some.0 some.1 some.2) in
              let m_low = subst (λ m. m < length starts) is (low some.0 some.1 some.2) in
              false≢true (sym ((there some.1 v m_low small).0 m_in) ∙ some.4)
        ]
      ]))),
    )

  pub AreGreatest-turned : AreGreatest places next mask starts sets
  AreGreatest-turned = record {
    solution = record {
      shape = HaveShape-trans lacks_shape last.shape;
      meets = meets_here;
    };
    greatest = λ n v less small none.
        let low_n : n < length starts = omega (arith, less, last.shape.count, lacks_shape.count) in
        misses small (least.least n v (elim (cases_Bool (item (get_or lacks n []) v)) [
          | inl lack ↦ lack
          | inr not_lack ↦ absurd (none ((there n v low_n small).1 not_lack))
        ]));
  }
