-- A loop that combines blocks with others, one after another, and collects whether one changed.
use Rattle.std.specs.Prelude.{Some, slice_get, ◌↔◌}
use Rattle.std.proofs.lemmas.Option.{get_or_from_slice_get, slice_get-map}
use Rattle.std.proofs.Common.{◌≡◌, ◌≢◌, ℕ, ◌+◌, ◌^◌, ◌<◌, ◌≤◌, Bool, true, false, not, ◌&&◌, ◌||◌, List}
use Rattle.std.proofs.Common.{length, map, get_or, set, refl, sym, ap, ◌∙◌, subst, arith, inl, inr}
use Rattle.std.proofs.lemmas.Bool.{cases_lt, or_parts, false≢true}
use Rattle.std.proofs.lemmas.List.{ext_get_or, get_or-set_same, get_or-set_other, get_or-map, map-set, length-map, length-set}
use Rattle.std.proofs.lemmas.List.Elements.{All-from_get_or}
use Rattle.std.proofs.lemmas.Nat.{pow_pos}
use Rattle.vob_block.specs.Places.{place, HasPlaces}
use Rattle.vob_block.specs.Kernel.{Takes}
use Rattle.vob_block.specs.Pointwise.{IsCombined, differ, without}
use Rattle.vob_block.proofs.BoolLemmas.{same_from_differ, differ-same}
use Rattle.vob_block.proofs.PlaceLemmas.{same_from_places, place-zero}

-- what a block has where another, negated, has it too
pub HasPlaces-without : (w own other negated both : ℕ)
    → HasPlaces w negated (λ j. not (place j other))
    → HasPlaces w both (λ j. place j own && place j negated)
    → HasPlaces w both (λ j. without (place j own) (place j other))
HasPlaces-without w own other negated both h g =
    record { each = λ j less. g.each j less ∙ ap (λ b. place j own && b) (h.each j less) }

-- a number with the places where two others differ is 0 exactly where these are the same
pub differ-zero : (w a b x : ℕ) → a < 2 ^ w → b < 2 ^ w
    → HasPlaces w x (λ j. differ (place j a) (place j b)) → x ≡ 0 → a ≡ b
differ-zero w a b x p q h e =
    same_from_places w a b p q (λ j k. same_from_differ (place j a) (place j b)
    (sym (h.each j k) ∙ ap (place j) e ∙ place-zero j))

pub zero-differ : (w a b x : ℕ) → x < 2 ^ w → HasPlaces w x (λ j. differ (place j a) (place j b))
    → a ≡ b → x ≡ 0
zero-differ w a b x p h e =
    same_from_places w x 0 p (pow_pos w) (λ j k. h.each j k
    ∙ ap (λ c. differ (place j a) (place j c)) (sym e) ∙ differ-same (place j a)
    ∙ sym (place-zero j))

-- places of two numbers together are none exactly where both have none
pub or-zero : (w a b x : ℕ) → a < 2 ^ w → b < 2 ^ w → HasPlaces w x (λ j. place j a || place j b)
    → x ≡ 0 → (a ≡ 0) × (b ≡ 0)
or-zero w a b x p q h e =
    let none = λ (j : ℕ) (k : j < w). or_parts (place j a) (place j b)
    (sym (h.each j k) ∙ ap (place j) e ∙ place-zero j) in (
      same_from_places w a 0 p (pow_pos w) (λ j k. (none j k).0 ∙ sym (place-zero j)),
      same_from_places w b 0 q (pow_pos w) (λ j k. (none j k).1 ∙ sym (place-zero j)),
    )

pub zero-or : (w a b x : ℕ) → x < 2 ^ w → HasPlaces w x (λ j. place j a || place j b) → a ≡ 0 → b
    ≡ 0 → x ≡ 0
zero-or w a b x p h e f =
    same_from_places w x 0 p (pow_pos w) (λ j k. h.each j k ∙ ap (λ c. place j c || place j b) e
    ∙ ap (λ c. place j 0 || place j c) f ∙ ap (λ c. c || c) (place-zero j) ∙ sym (place-zero j))

module _ (w : ℕ) (f : Bool → Bool → Bool) (others : List ℕ) where
  -- one block, in the place of the k-th
  module _ (before : List ℕ) (k changed : ℕ) (inside : k < length before) (small : changed < 2 ^ w)
      (old new diff later : ℕ) (is : old ≡ get_or before k 0) (old-in : old < 2 ^ w)
      (new-in : new < 2 ^ w) (diff-in : diff < 2 ^ w) (later-in : later < 2 ^ w)
      (places : HasPlaces w new (λ j. f (place j old) (place j (get_or others k 0))))
      (differs : HasPlaces w diff (λ j. differ (place j old) (place j new)))
      (packed : HasPlaces w later (λ j. place j changed || place j diff)) where
    here : get_or (set before k new) k 0 ≡ new
    here = get_or-set_same before k new 0 inside

    there : (i : ℕ) → i ≢ k → get_or (set before k new) i 0 ≡ get_or before i 0
    there i other = get_or-set_other before k i new 0 other

    -- what holds of this block
    at_place : (P : ℕ → Type 0) → P k → (i : ℕ) → k ≤ i → i < k + 1 → P i
    at_place P this i from less = subst P (omega arith) this

    pub Takes-one : Takes w f others before (set before k new) k 1 changed later
    Takes-one = record {
      count = length-set before k new;
      done = at_place (λ i. HasPlaces w (get_or (set before k new) i 0)
          (λ j. f (place j (get_or before i 0)) (place j (get_or others i 0))))
          (subst (λ (x : ℕ). HasPlaces w x
          (λ j. f (place j (get_or before k 0)) (place j (get_or others k 0)))) (sym here)
          (subst (λ (x : ℕ). HasPlaces w new (λ j. f (place j x) (place j (get_or others k 0)))) is
          places));
      within = at_place (λ i. get_or (set before k new) i 0 < 2 ^ w)
          (subst (λ (x : ℕ). x < 2 ^ w) (sym here) new-in);
      below = λ i less. there i (λ same. absurd (omega arith));
      above = λ i more. there i (λ same. absurd (omega arith));
      flag = (
        λ e.
            let parts = or-zero w changed diff later small diff-in packed e in
            let same = differ-zero w old new diff old-in new-in differs parts.1 in (
              parts.0,
              at_place (λ i. get_or (set before k new) i 0 ≡ get_or before i 0)
                  (here ∙ sym same ∙ is),
            ),
        λ both. zero-or w changed diff later later-in packed both.0 (zero-differ w old new diff
            diff-in differs (is ∙ sym (both.1 k (omega arith) (omega arith)) ∙ here)),
      );
    }

  pub Takes-none : (before : List ℕ) (k changed : ℕ) → Takes w f others before before k 0 changed changed
  Takes-none before k changed = record {
    count = refl;
    done = λ i from less. absurd (omega arith);
    within = λ i from less. absurd (omega arith);
    below = λ i less. refl;
    above = λ i more. refl;
    flag = (λ e. (e, λ i from less. absurd (omega arith)), λ both. both.0);
  }

  -- some, and then those that follow them
  module _ (before between after : List ℕ) (k m n at changed sooner later : ℕ)
      (first : Takes w f others before between k m changed sooner) (is : at ≡ k + m)
      (second : Takes w f others between after at n sooner later) where
    by_place : (P : ℕ → Type 0) → ((i : ℕ) → k ≤ i → i < k + m → P i)
        → ((i : ℕ) → at ≤ i → i < at + n → P i) → (i : ℕ) → k ≤ i → i < k + (m + n) → P i
    by_place P these those i from less = elim (cases_lt i (k + m)) [
      | inl below ↦ these i from below
      | inr above ↦ those i (omega arith) (omega arith)
    ]

    pub Takes-more : Takes w f others before after k (m + n) changed later
    Takes-more =
        let made = λ (x y i : ℕ). HasPlaces w x (λ j. f (place j y) (place j (get_or others i 0))) in
        let kept = λ (i : ℕ) (less : i < k + m). second.below i (omega arith) in
        let fresh = λ (i : ℕ) (from : at ≤ i). first.above i (omega arith) in
        record {
          count = second.count ∙ first.count;
          done = by_place (λ i. made (get_or after i 0) (get_or before i 0) i)
              (λ i from less. subst (λ (x : ℕ). made x (get_or before i 0) i) (sym (kept i less))
              (first.done i from less))
              (λ i from less. subst (λ (y : ℕ). made (get_or after i 0) y i) (fresh i from)
              (second.done i from less));
          within = by_place (λ i. get_or after i 0 < 2 ^ w)
              (λ i from less. subst (λ (x : ℕ). x < 2 ^ w) (sym (kept i less))
              (first.within i from less)) second.within;
          below = λ i less. second.below i (omega arith) ∙ first.below i less;
          above = λ i more. second.above i (omega arith) ∙ first.above i (omega arith);
          flag = (
            λ e.
                let those = second.flag.0 e in
                let these = first.flag.0 those.0 in (
                  these.0,
                  by_place (λ i. get_or after i 0 ≡ get_or before i 0)
                      (λ i from less. kept i less ∙ these.1 i from less)
                      (λ i from less. those.1 i from less ∙ fresh i from),
                ),
            λ all. second.flag.1 (
              first.flag.1 (all.0, λ i from less. sym (kept i less) ∙ all.1 i from (omega arith)),
              λ i from less. all.1 i (omega arith) (omega arith) ∙ sym (fresh i from),
            ),
          );
        }

  -- at the end every block is taken, and the flag is 0 exactly where all are as they were
  module _ (olds news : List ℕ) (m changed later : ℕ) (h : Takes w f others olds news 0 m changed later)
      (none : changed ≡ 0) (whole : m ≡ length olds) where
    flag-taken : (same : Bool) → ((same ≡ true) ↔ (later ≡ 0))
        → (not same ≡ true → news ≢ olds) × (news ≢ olds → not same ≡ true)
    flag-taken true test = (
      (λ e. absurd (false≢true e)),
      (λ differs. absurd (differs (ext_get_or 0 news olds h.count
          (λ i less. (h.flag.0 (test.0 refl)).1 i (omega arith) (omega (arith, h.count)))))),
    )
    flag-taken false test = (
      (λ _ e. absurd (false≢true
          (test.1 (h.flag.1 (none, λ i from less. ap (λ xs. get_or xs i 0) e))))),
      (λ _. refl),
    )

    pub IsCombined-taken : (same : Bool) → ((same ≡ true) ↔ (later ≡ 0))
        → IsCombined w f olds others news (not same)
    IsCombined-taken same test = record {
      places = record { count = h.count; each = λ i less. h.done i (omega arith) (omega arith) };
      within = All-from_get_or (λ x. x < 2 ^ w) news 0
          (λ i less. h.within i (omega arith) (omega (arith, h.count)));
      flag = flag-taken same test;
    }

-- one block, where the blocks are items with a number each, as the code reads and writes them
module _ {X : Type 0} (number : X → ℕ) (w : ℕ) (f : Bool → Bool → Bool) (others own : List X)
    (k changed : ℕ) (small : changed < 2 ^ w) (inside : k < length own) where
  pub Takes-item : (old other new diff after : X) → old ≡ get_or own k old → slice_get others k
      ≡ Some other
      → number old < 2 ^ w → number new < 2 ^ w → number diff < 2 ^ w → number after < 2 ^ w
      → HasPlaces w (number new) (λ j. f (place j (number old)) (place j (number other)))
      → HasPlaces w (number diff) (λ j. differ (place j (number old)) (place j (number new)))
      → HasPlaces w (number after) (λ j. place j changed || place j (number diff))
      → Takes w f (map number others) (map number own) (map number (set own k new)) k 1 changed
      (number after)
  Takes-item old other new diff after read their old-in new-in diff-in after-in places differs
      packed =
      let is : number old ≡ get_or (map number own) k 0 =
      ap number read ∙ sym (get_or-map number own k old 0 inside) in
      let its : number other ≡ get_or (map number others) k 0 =
      sym (get_or_from_slice_get (map number others) k (number other) 0
      (rw (slice_get-map, their) refl)) in
      let room : k < length (map number own) = omega (arith, length-map own number) in
      let taken = subst (λ (y : ℕ). HasPlaces w (number new)
      (λ j. f (place j (number old)) (place j y))) its places in
      rw map-set (Takes-one w f (map number others) (map number own) k changed room small
      (number old) (number new) (number diff) (number after) is old-in new-in
      diff-in after-in taken differs packed)
