-- Sets that get what is in some of others, or become what is in all of them.
use Rattle.std.proofs.Common.{◌≡◌, ◌||◌, ◌&&◌, ℕ, ◌<◌, Bool, true, false, inl, inr, List, [], length, get_or, set, refl, sym, ◌∙◌, arith}
use Rattle.std.specs.List.{Contains}
use Rattle.std.proofs.lemmas.Bool.{cases_eq}
use Rattle.std.proofs.lemmas.List.{length-set, get_or-set_same, get_or-set_other}
use Rattle.vob_block.specs.Pointwise.{pointwise}
use Rattle.vob_block.proofs.PointwiseLemmas.{length-pointwise}
use Rattle.vob.specs.Indices.{IsSetAt}
use Rattle.vob.proofs.BitsLemmas.{AreCombined-pointwise, and_true, or_true, row_inside}
use Rattle.vob_flow.specs.Changes.{Becomes, EachGets, Gets}
use Rattle.vob_flow.specs.Draws.{IsIn, IsInSome}
use Rattle.vob_flow.specs.Gathered.{AreGathered}
use Rattle.vob_flow.proofs.AnyLemmas.{edge_inside}
use Rattle.vob_flow.proofs.ChangesLemmas.{Becomes-row, EachGets-all, Gets-row}

module _ (sets : List (List Bool)) {mid after : List (List Bool)} (n m : ℕ) (inside : n < length mid)
    (same : length (get_or mid n []) ≡ length (get_or sets m [])) where
  pub Gets-or : after ≡ set mid n (pointwise ◌||◌ (get_or mid n []) (get_or sets m []))
      → Gets mid n (IsIn sets m) after
  Gets-or put =
      let old = get_or mid n [] in
      let other = get_or sets m [] in
      Gets-row n (IsIn sets m) (pointwise ◌||◌ old other) inside put (length-pointwise ◌||◌ old other same)
      (λ v. or_true old other _ v (AreCombined-pointwise ◌||◌ old other same refl))

  pub Becomes-and : after ≡ set mid n (pointwise ◌&&◌ (get_or mid n []) (get_or sets m []))
      → Becomes mid n (λ v. IsIn mid n v × IsIn sets m v) after
  Becomes-and put =
      let old = get_or mid n [] in
      let other = get_or sets m [] in
      Becomes-row n _ (pointwise ◌&&◌ old other) inside put (length-pointwise ◌&&◌ old other same)
      (λ v less. and_true old other _ v (AreCombined-pointwise ◌&&◌ old other same refl))

-- some places more
pub Gets-indices : {sets after : List (List Bool)} (n : ℕ) (indices : List ℕ) → n < length sets
    → after ≡ set sets n (get_or after n []) → IsSetAt indices (get_or sets n []) (get_or after n [])
    → Gets sets n (Contains indices) after
Gets-indices n indices inside put h = Gets-row n (Contains indices) _ inside put h.len h.each

-- one place more
pub Gets-place : {sets after : List (List Bool)} (n j : ℕ) → n < length sets
    → j < length (get_or sets n []) → after ≡ set sets n (set (get_or sets n []) j true)
    → Gets sets n (λ v. j ≡ v) after
Gets-place {sets} n j inside low put =
    let row = get_or sets n [] in
    Gets-row n _ (set row j true) inside put (length-set row j true) (λ v. (
      (λ e. elim (cases_eq v j) [
        | inl here ↦ inr (sym here)
        | inr other ↦ inl (sym (get_or-set_other row j v true false other) ∙ e)
      ]),
      (λ either. elim (cases_eq v j) [
        | inl here ↦ rw here (get_or-set_same row j true false low)
        | inr other ↦ elim either [
          | inl old ↦ get_or-set_other row j v true false other ∙ old
          | inr same ↦ absurd (other (sym same))
        ]
      ]),
    ))

-- all sums of some empty sets
pub AreGathered-all : (next : List (List ℕ)) (sets sums after : List (List Bool)) (k : ℕ)
    → length next ≡ k → length sums ≡ k → ((n v : ℕ) → ¬ IsIn sums n v)
    → EachGets sums (λ n v. IsInSome sets (get_or next n []) v) after k → AreGathered next sets after
AreGathered-all next sets sums after k nodes count none h = record {
  count = h.shape.count ∙ count ∙ sym nodes;
  each = EachGets-all _ h count none
      (λ n v some. omega (arith, nodes, edge_inside next n some.1 (some.0, some.2, some.3)))
      (λ n v e. omega (arith, row_inside after n v e, h.shape.count, count));
}
