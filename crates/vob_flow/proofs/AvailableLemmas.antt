-- What holds on all paths.
use Rattle.std.proofs.Common.{◌≡◌, ◌↔◌, ◌⊎◌, ℕ, ◌<◌, Bool, true, inl, inr}
use Rattle.std.proofs.Common.{List, [], length, get_or, Option, sym, ◌∙◌, subst, arith}
use Rattle.std.proofs.lemmas.Bool.{false≢true}
use Rattle.vob.specs.Vobs.{AreOfLength}
use Rattle.vob.proofs.BitsLemmas.{row_inside}
use Rattle.vob.proofs.VobsLemmas.{of_length_at}
use Rattle.vob_flow.specs.declared.draw.Masks.{Masks}
use Rattle.vob_flow.specs.Available.{AreFlowingOnAll, AreWithinPlaces, HoldOnAll, IsEntry}
use Rattle.vob_flow.specs.Changes.{EachBecomes}
use Rattle.vob_flow.specs.Draws.{HaveShape, IsIn, mask_of}
use Rattle.vob_flow.specs.Greatest.{AreGreatest, IsCommonSolution, IsInAll, Misses, away, mask_from}
use Rattle.vob_flow.specs.Greatest.Misses.{dropped, missed}
use Rattle.vob_flow.proofs.GreatestLemmas.{in_or, mask_keeps}
use Rattle.vob_flow.proofs.UnderwayLemmas.{HaveShape-trans}

-- ---- what is missing

-- what is missing is missing from all sets that meet the equation
module _ (places : ℕ) (next : List (List ℕ)) (mask : ℕ → ℕ → Bool) (starts others : List (List Bool))
    (count : length others ≡ length next)
    (meets : (n v : ℕ) → n < length next → v < places → IsIn others n v
    → (IsIn starts n v ⊎ ((mask n v ≡ true) × IsInAll others (get_or next n []) v))) where
  met : (n v : ℕ) → v < places → IsIn others n v
      → (IsIn starts n v ⊎ ((mask n v ≡ true) × IsInAll others (get_or next n []) v))
  met n v small e = meets n v (omega (arith, row_inside others n v e, count)) small e

  pub missing : {n v : ℕ} → v < places → Misses next mask starts n v → ¬ IsIn others n v
  missing {n} {v} small (dropped new drops) e = elim (met n v small e) [
    | inl start ↦ new start
    | inr both ↦ false≢true (sym drops ∙ both.0)
  ]
  missing {n} {v} small (missed {m = m} new (k, less, at) c) e = elim (met n v small e) [
    | inl start ↦ new start
    | inr both ↦ missing small c (subst (λ j. IsIn others j v) at (both.1 k m less))
  ]

-- so a solution is within the greatest sets
pub within_greatest : (places : ℕ) (next : List (List ℕ)) (mask : ℕ → ℕ → Bool)
    (starts sets others : List (List Bool)) → length next ≡ length starts →
    AreGreatest places next mask starts sets → IsCommonSolution places next mask starts others →
    (n v : ℕ) → v < places → IsIn others n v → IsIn sets n v
within_greatest places next mask starts sets others count h s n v small e = elim (in_or sets n v) [
  | inl there ↦ there
  | inr none ↦
      let less : n < length sets =
      omega (arith, row_inside others n v e, s.shape.count, h.solution.shape.count) in
      absurd (missing places next mask starts others (s.shape.count ∙ sym count)
      (λ k u low is. (s.meets k u low is).0) small (h.greatest n v less small none) e)
]

-- ---- the greatest sets that draw so are the far sides, and the near ones what they draw

module _ (places : ℕ) (entry : Option ℕ) (next : List (List ℕ)) (mask : ℕ → ℕ → Bool)
    (gens near far : List (List Bool)) (fit : length next ≡ length gens)
    (h : AreGreatest places next (away entry mask) gens far) (near_shape : HaveShape gens near)
    (near_is : (n v : ℕ) → n < length next → v < places → (¬ IsEntry entry n)
    → IsIn near n v ↔ IsInAll far (get_or next n []) v)
    (at_entry : (n v : ℕ) → IsEntry entry n → ¬ IsIn near n v) where
  far_is : (n v : ℕ) → v < places →
      IsIn far n v ↔ (IsIn gens n v ⊎ (IsIn near n v × (mask n v ≡ true)))
  far_is n v small = (
    (λ e.
        let less : n < length next = omega (arith, row_inside far n v e, h.solution.shape.count, fit) in
        elim ((h.solution.meets n v less small).0 e) [
          | inl gen ↦ inl gen
          | inr both ↦
              let keeps = (mask_keeps entry mask n v).0 both.0 in
              inr ((near_is n v less small keeps.0).1 both.1, keeps.1)
        ]),
    (λ either. elim either [
      | inl gen ↦
          let less : n < length next = omega (arith, row_inside gens n v gen, fit) in
          (h.solution.meets n v less small).1 (inl gen)
      | inr both ↦
          let less : n < length next = omega (arith, row_inside near n v both.0, near_shape.count, fit) in
          let other : ¬ IsEntry entry n = λ here. at_entry n v here both.0 in
          (h.solution.meets n v less small).1
          (inr ((mask_keeps entry mask n v).1 (other, both.1), (near_is n v less small other).0 both.0))
    ]),
  )

  module _ (others other_far : List (List Bool))
      (s : AreFlowingOnAll places entry next mask gens others other_far) where
    other_meets : (n v : ℕ) → n < length next → v < places → IsIn other_far n v →
        (IsIn gens n v ⊎ ((away entry mask n v ≡ true) × IsInAll other_far (get_or next n []) v))
    other_meets n v less small e = elim ((s.far_is n v small).0 e) [
      | inl gen ↦ inl gen
      | inr both ↦
          let other : ¬ IsEntry entry n = λ here. s.at_entry n v here both.0 in
          inr ((mask_keeps entry mask n v).1 (other, both.1), (s.near_is n v less small other).0 both.0)
    ]

    far_within : AreWithinPlaces places other_far far
    far_within n v small e = elim (in_or far n v) [
      | inl there ↦ there
      | inr none ↦
          let less : n < length far =
          omega (arith, row_inside other_far n v e, s.far_count, h.solution.shape.count) in
          absurd (missing places next (away entry mask) gens other_far (s.far_count ∙ sym fit)
          other_meets small (h.greatest n v less small none) e)
    ]

    near_within : AreWithinPlaces places others near
    near_within n v small e =
        let less : n < length next = omega (arith, row_inside others n v e, s.near_count) in
        let other : ¬ IsEntry entry n = λ here. s.at_entry n v here e in
        let all = (s.near_is n v less small other).0 e in
        (near_is n v less small other).1
        (λ k d low. far_within (get_or (get_or next n []) k d) v small (all k d low))

  pub HoldOnAll-greatest : HoldOnAll places entry next mask gens near far
  HoldOnAll-greatest = record {
    near_shape = near_shape;
    far_shape = h.solution.shape;
    flowing = record {
      near_count = near_shape.count ∙ sym fit;
      near_is = near_is;
      at_entry = at_entry;
      far_count = h.solution.shape.count;
      far_is = far_is;
    };
    greatest = λ others other_far s. (
      near_within others other_far s,
      far_within others other_far s,
    );
  }

-- what is in all that a node draws from, but nothing at the entry
pub HoldOnAll-common : (places : ℕ) (entry : Option ℕ) (next : List (List ℕ)) (masks : Masks)
    (gens common near far : List (List Bool)) → length next ≡ length gens → AreOfLength places gens
    → AreGreatest places next (mask_from entry masks) gens far
    → EachBecomes gens (λ n. IsInAll far (get_or next n [])) common (length next)
    → HaveShape common near
    → ((n v : ℕ) → IsIn near n v ↔ (IsIn common n v × (¬ IsEntry entry n)))
    → HoldOnAll places entry next (mask_of masks) gens near far
HoldOnAll-common places entry next masks gens common near far fit long h in_all shape cleared =
    HoldOnAll-greatest places entry next (mask_of masks) gens near far fit h (HaveShape-trans in_all.shape shape)
    (λ n v less small away.
    let of = in_all.below n v less (omega (
      arith,
      small,
      of_length_at places gens n [] long (omega (arith, less, fit)),
    )) in (
      (λ e. of.0 ((cleared n v).0 e).0),
      (λ all. (cleared n v).1 (of.1 all, away)),
    ))
    (λ n v here e. ((cleared n v).0 e).1 here)
