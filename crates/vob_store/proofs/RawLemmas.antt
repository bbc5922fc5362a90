-- Blocks from outside: whether they are as many as n bits need and false from bit n on, as the code
-- tests it. They are items with a number each.
use Rattle.std.specs.Prelude.{IsTrue, nat_eq, All}
use Rattle.std.specs.Int.{div_ceil}
use Rattle.std.proofs.Common.{◌≡◌, ◌≢◌, ◌↔◌, ℕ, ◌/◌, ◌%◌, ◌^◌, ◌<◌, Bool, true, false, ◌&&◌, List}
use Rattle.std.proofs.Common.{length, map, get_or, set, ltb, refl, sym, ap, ◌∙◌, subst, eqb-true}
use Rattle.std.proofs.Common.{eq-eqb}
use Rattle.std.proofs.lemmas.List.{get_or-map, map-set, length-map, get_or-set_same}
use Rattle.std.proofs.Math.Seq.{map-set_same}
use Rattle.vob_block.specs.Places.{place, HasPlaces}
use Rattle.vob_block.specs.Packing.{need, unpacking, IsCanonical, Stores}
use Rattle.vob_store.proofs.CutLemmas.{canonical_at_full_width, last_in_items, mask_last_at}
use Rattle.vob_block.proofs.PointwiseLemmas.{same_from_lists}
use Rattle.vob_block.proofs.NeedLemmas.{need-is-div_ceil}

module _ {X : Type 0} (number : X → ℕ) (w : ℕ) (wide : 0 < w) (n : ℕ) (items : List X)
    (u wanted : ℕ) (same : u ≡ w) (is : wanted ≡ div_ceil n u) where
  needed : wanted ≡ need n w
  needed = is ∙ need-is-div_ceil w wide n u same

  -- a count that is compared with the quotient rounded up is compared with the need
  pub count_decides : (count : ℕ) → count ≡ length items → IsTrue (nat_eq count wanted)
      ↔ (length items ≡ need n w)
  count_decides count all = (
    (λ e. sym all ∙ eqb-true count wanted e ∙ needed),
    (λ e. eq-eqb count wanted (all ∙ e ∙ sym needed)),
  )

  -- blocks that are too few or too many aren't canonical
  pub count_refuses : length items ≢ wanted → IsTrue false ↔ IsCanonical n (map number items) w
  count_refuses other = (
    (λ no. absurd (cc)),
    (λ h. absurd (other (sym (length-map items number) ∙ h.count ∙ sym needed))),
  )

  module _ (fit : length items ≡ wanted) (within : All (λ x. x < 2 ^ w) (map number items)) where
    -- a full last block has no unused bit
    pub full_decides : n % u ≡ 0 → IsTrue true ↔ IsCanonical n (map number items) w
    full_decides full = (
      (λ yes'. canonical_at_full_width number _ wide _ _ (fit ∙ needed) _ same within full),
      (λ h. refl),
    )

    -- elsewhere the last block x is compared with what the mask m leaves of it
    module _ (partial : n % u ≢ 0) (x y : X) (m : ℕ) (read : x ≡ get_or items (n / u) x)
        (small : number y < 2 ^ w)
        (places : HasPlaces w (number y) (λ j. place j (number x) && place j m))
        (mask : HasPlaces w m (λ j. ltb j (n % u))) where
      there : n / u < length items
      there = last_in_items number _ wide _ _ (fit ∙ needed) _ same partial

      last_is : number x ≡ get_or (map number items) (n / u) 0
      last_is = ap number read ∙ sym (get_or-map number items (n / u) x 0 there)

      masked : Stores w n (map number (set items (n / u) y)) (unpacking n (map number items) w)
      masked = mask_last_at number _ wide _ _ (fit ∙ needed) _ same within partial _ _ _ read small
          places mask

      same_canonical : number y ≡ number x → IsCanonical n (map number items) w
      same_canonical e = subst (λ (ys : List ℕ). IsCanonical n ys w)
          (map-set_same number items (n / u) y x (e ∙ ap number read)) masked.canonical

      canonical_same : IsCanonical n (map number items) w → number y ≡ number x
      canonical_same h =
          let same_blocks = sym (map-set number items (n / u) y)
          ∙ same_from_lists w wide n (map number (set items (n / u) y)) (map number items)
          masked.canonical h masked.bits in
          sym (get_or-set_same (map number items) (n / u) (number y) 0
          (subst (λ k. n / u < k) (sym (length-map items number)) there))
          ∙ ap (λ ys. get_or ys (n / u) 0) same_blocks ∙ sym last_is

      pub last_decides : (answer : Bool) → IsTrue answer ↔ (number y ≡ number x) → IsTrue answer
          ↔ IsCanonical n (map number items) w
      last_decides answer test = (
        (λ e. same_canonical (test.0 e)),
        (λ h. test.1 (canonical_same h)),
      )
