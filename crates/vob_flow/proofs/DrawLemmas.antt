-- A set that got what it draws, as the code leaves it.
use Rattle.std.proofs.Common.{◌≡◌, ◌↔◌, ℕ, ◌<◌, ◌+◌, ◌⊎◌, Bool, true, false, not, ◌&&◌, ◌||◌, inl, inr, List, [], length, take}
use Rattle.std.proofs.Common.{get_or, set, refl, sym, ap, ◌∙◌, subst, arith}
use Rattle.std.proofs.lemmas.Bool.{cases_eq, false≢true, not-true}
use Rattle.std.proofs.lemmas.List.{length-set, get_or-set_same, get_or-set_other, set-get_or}
use Rattle.vob_block.specs.Packing.{item}
use Rattle.vob_block.specs.Pointwise.{pointwise, without}
use Rattle.vob.specs.Bits.{GainsBits}
use Rattle.vob.proofs.BitsLemmas.{AreCombined-pointwise, and_true, or_true, without_true}
use Rattle.vob_block.proofs.PointwiseLemmas.{length-pointwise}
use Rattle.vob.proofs.VobsLemmas.{any_next, total_count_set}
use Rattle.vob_flow.specs.declared.draw.Masks.{Masks}
use Rattle.vob_flow.specs.Draws.{FitMasks, IsIn, IsInSome}
use Rattle.vob_flow.specs.Gains.{HasGained, IsDrawnOf, IsLetThrough}
use Rattle.vob_flow.proofs.GrowLemmas.{grew_either, grew_neither}
use Rattle.vob_flow.proofs.UnderwayLemmas.{HaveShape-refl, HaveShape-trans}

-- masks fit as many sets with as many places
pub fits_after : {count places after_count after_places : ℕ} (masks : Masks) → FitMasks count places masks
    → after_count ≡ count → after_places ≡ places → FitMasks after_count after_places masks
fits_after {count} {places} {after_count} {after_places} masks fits same also =
    subst (λ m. FitMasks m after_places masks) (sym same) (subst (λ m. FitMasks count m masks) (sym also) fits)

-- ---- what a mask lets through of another list

module _ (source kept : List Bool) (same : length source ≡ length kept) (v : ℕ) where
  pub kept_of : (item (pointwise ◌&&◌ source kept) v ≡ true)
      ↔ ((item kept v ≡ true) × (item source v ≡ true))
  kept_of =
      let both = and_true source kept (pointwise ◌&&◌ source kept) v
      (AreCombined-pointwise ◌&&◌ source kept same refl) in
      ((λ e. let p = both.0 e in (p.1, p.0)), (λ p. both.1 (p.1, p.0)))

  pub left_of : (item (pointwise without source kept) v ≡ true)
      ↔ ((not (item kept v) ≡ true) × (item source v ≡ true))
  left_of =
      let both = without_true source kept (pointwise without source kept) v
      (AreCombined-pointwise without source kept same refl) in
      ((λ e. let p = both.0 e in (ap not p.1, p.0)), (λ p. both.1 (p.1, not-true (item kept v) p.0)))

-- ---- one set is written

module _ (sets : List (List Bool)) (n : ℕ) (P : ℕ → Type 0) (row : List Bool) (grew : Bool)
    (inside : n < length sets) (len : length row ≡ length (get_or sets n []))
    (bits : (v : ℕ) → (item row v ≡ true) ↔ (IsIn sets n v ⊎ P v))
    (gains : GainsBits grew (get_or sets n []) row) where
  row_is : get_or (set sets n row) n [] ≡ row
  row_is = get_or-set_same sets n row [] inside

  long_here : (k : ℕ) → length (get_or (set sets n row) k []) ≡ length (get_or sets k [])
  long_here k = elim (cases_eq k n) [
    | inl here ↦ subst (λ j. length (get_or (set sets n row) j []) ≡ length (get_or sets j []))
        (sym here) (ap length row_is ∙ len)
    | inr other ↦ ap length (get_or-set_other sets n k row [] other)
  ]

  pub HasGained-set : HasGained sets n P (set sets n row) grew
  HasGained-set = record {
    shape = record { count = length-set sets n row; long = long_here };
    here = λ v. let bit = ap (λ bs. item bs v) row_is in (
      (λ e. (bits v).0 (sym bit ∙ e)),
      (λ either. bit ∙ (bits v).1 either),
    );
    others = λ k other. get_or-set_other sets n k row [] other;
    same = λ quiet. ap (set sets n) (gains.same quiet) ∙ set-get_or sets n [];
    more = λ up. omega (arith, gains.more up, total_count_set sets n row inside);
  }

-- the same, where it got some bits that a mask let through of set m
pub HasGained-row : (sets : List (List Bool)) (n m : ℕ) (mask : ℕ → Bool) (masked : List Bool)
    (after : List (List Bool)) (grew : Bool) → n < length sets
    → length (get_or sets n []) ≡ length masked
    → ((v : ℕ) → (item masked v ≡ true) ↔ IsLetThrough sets mask m v)
    → after ≡ set sets n (pointwise ◌||◌ (get_or sets n []) masked)
    → GainsBits grew (get_or sets n []) (get_or after n [])
    → HasGained sets n (IsLetThrough sets mask m) after grew
HasGained-row sets n m mask masked after grew inside same through is gains =
    let row = get_or sets n [] in
    let both = pointwise ◌||◌ row masked in
    let here : get_or after n [] ≡ both =
    ap (λ rows. get_or rows n []) is ∙ get_or-set_same sets n both [] inside in
    subst (λ (rows : List (List Bool)). HasGained sets n (IsLetThrough sets mask m) rows grew) (sym is)
    (HasGained-set sets n (IsLetThrough sets mask m) both grew inside
    (length-pointwise ◌||◌ row masked same) (λ v.
    let either = or_true row masked both v (AreCombined-pointwise ◌||◌ row masked same refl) in (
      (λ e. elim (either.0 e) [ inl old ↦ inl old | inr new ↦ inr ((through v).0 new) ]),
      (λ x. either.1 (elim x [ inl old ↦ inl old | inr new ↦ inr ((through v).1 new) ])),
    )) (subst (λ (bits : List Bool). GainsBits grew row bits) here gains))

-- ---- places that a set gets one after another

-- none yet
pub HasGained-none : (sets : List (List Bool)) (n : ℕ) (P : ℕ → Type 0) → ((v : ℕ) → P v → IsIn sets n v)
    → HasGained sets n P sets false
HasGained-none sets n P has = record {
  shape = HaveShape-refl sets;
  here = λ v. ((λ e. inl e), (λ either. elim either [ inl old ↦ old | inr new ↦ has v new ]));
  others = λ k other. refl;
  same = λ e. refl;
  more = λ e. absurd (false≢true e);
}

-- and those of one set more
module _ {sets mid after : List (List Bool)} (n : ℕ) (mask : ℕ → Bool) (from : List ℕ) (k m : ℕ)
    {a b : Bool} (less : k < length from) (is : m ≡ get_or from k m)
    (h : HasGained sets n (IsDrawnOf sets mask (take k from)) mid a)
    (d : HasGained mid n (IsLetThrough mid mask m) after b) where
  next : (v : ℕ) → IsInSome sets (take (k + 1) from) v ↔ (IsInSome sets (take k from) v ⊎ IsIn sets m v)
  next v = any_next (λ j. IsIn sets j v) from k m less is

  had : (v : ℕ) → IsIn mid n v → IsIn sets n v ⊎ IsDrawnOf sets mask (take (k + 1) from) v
  had v e = elim ((h.here v).0 e) [
    | inl start ↦ inl start
    | inr drawn ↦ inr (drawn.0, (next v).1 (inl drawn.1))
  ]

  has : (v : ℕ) → IsIn after n v → IsIn sets n v ⊎ IsDrawnOf sets mask (take (k + 1) from) v
  has v e = elim ((d.here v).0 e) [
    | inl old ↦ had v old
    | inr new ↦ elim (cases_eq m n) [
      | inl own ↦ had v (subst (λ j. IsIn mid j v) own new.1)
      | inr other ↦
          inr (new.0, (next v).1 (inr (sym (ap (λ bs. item bs v) (h.others m other)) ∙ new.1)))
    ]
  ]

  stays : (v : ℕ) → IsIn sets n v → IsIn after n v
  stays v e = (d.here v).1 (inl ((h.here v).1 (inl e)))

  gets : (v : ℕ) → IsIn sets n v ⊎ IsDrawnOf sets mask (take (k + 1) from) v → IsIn after n v
  gets v either = elim either [
    | inl start ↦ stays v start
    | inr drawn ↦ elim ((next v).0 drawn.1) [
      | inl old ↦ (d.here v).1 (inl ((h.here v).1 (inr (drawn.0, old))))
      | inr new ↦ elim (cases_eq m n) [
        | inl own ↦ stays v (subst (λ j. IsIn sets j v) own new)
        | inr other ↦
            (d.here v).1 (inr (drawn.0, ap (λ bs. item bs v) (h.others m other) ∙ new))
      ]
    ]
  ]

  pub HasGained-more : HasGained sets n (IsDrawnOf sets mask (take (k + 1) from)) after (a || b)
  HasGained-more = record {
    shape = HaveShape-trans h.shape d.shape;
    here = λ v. (has v, gets v);
    others = λ j other. d.others j other ∙ h.others j other;
    same = grew_neither a b h.same d.same;
    more = grew_either a b h.more h.same d.more d.same;
  }
