-- The bits from some index on taken off, at a plain width.
use Rattle.std.specs.Prelude.{All}
use Rattle.std.proofs.Common.{Bool, ◌≡◌, ◌≢◌, ℕ, ◌+◌, ◌*◌, ◌/◌, ◌%◌, ◌^◌, ◌<◌, ◌≤◌, min, false}
use Rattle.std.proofs.Common.{◌&&◌, List, [], length, add-zero, map, get_or, set, take, ltb, sym}
use Rattle.std.proofs.Common.{ap, ◌∙◌, arith, inl, inr, div-add-mod'}
use Rattle.std.proofs.lemmas.Bool.{cases_eq, cases_lt, lt-ltb, le-ltb, and_right}
use Rattle.std.proofs.Math.Bool.{and-true}
use Rattle.std.proofs.lemmas.List.{append-nil, get_or-map, map-set, length-map, get_or-take, length-take-le, take-map}
use Rattle.vob_block.specs.Places.{place, HasPlaces}
use Rattle.vob_block.specs.Packing.{need, bit_at, unpacking, IsCanonical, Stores}
use Rattle.vob_block.proofs.NeedLemmas.{need-le-need, need_at_full, need_at_open, div-lt-need}
use Rattle.vob_block.proofs.PackingLemmas.{bit_at-in_block, bit_at-is_place, length-unpacking, get_or-unpacking, take-unpacking, unpacking_from_items}
use Rattle.vob_store.proofs.BuildLemmas.{AreBuilt-upto, AreBuilt-start, Stores-built, Stores-last, item-low, item-high}

-- ---- what is unpacked, at fewer bits

-- blocks that store the same below n unpack to the same n bits
pub unpacking_same : (n : ℕ) (xs ys : List ℕ) (w : ℕ)
    → ((i : ℕ) → i < n → bit_at ys w i ≡ bit_at xs w i) → unpacking n ys w ≡ unpacking n xs w
unpacking_same n xs ys w same = unpacking_from_items (unpacking n xs w) n ys w
    (length-unpacking n xs w) (λ i h. same i h ∙ sym (get_or-unpacking n xs w i false h))

-- the first m of the bits that are stored
pub unpacking-first : {w m n : ℕ} {xs : List ℕ} {bits : List Bool} → Stores w n xs bits → m ≤ n
    → unpacking m xs w ≡ take m bits
unpacking-first {w} {m} {n} {xs} stored fewer = sym (take-unpacking m n xs w fewer)
    ∙ ap (take m) stored.bits

module _ (w : ℕ) (wide : 0 < w) where
  -- the blocks that the first n bits need store them
  pub unpacking-take : (n : ℕ) (xs : List ℕ) → unpacking n (take (need n w) xs) w ≡ unpacking n xs w
  unpacking-take n xs = unpacking_same n xs (take (need n w) xs) w (λ i h.
      bit_at-is_place (take (need n w) xs) w i
      ∙ ap (place (i % w)) (get_or-take (need n w) xs (i / w) 0 (div-lt-need w wide n i h))
      ∙ sym (bit_at-is_place xs w i))

  -- what the code computes for the need
  pub div_ceil-need : (n : ℕ) → n / w + min 1 (n % w) ≡ need n w
  div_ceil-need n = elim (cases_eq (n % w) 0) [
    | inl full ↦ omega (arith, (need_at_full w wide n full).0)
    | inr partial ↦ omega (arith, (need_at_open w wide n partial).0)
  ]

-- ---- blocks that are as many as n bits need, and the places of the last one from n on

module _ (w : ℕ) (wide : 0 < w) (n : ℕ) (xs : List ℕ) (count : length xs ≡ need n w)
    (within : All (λ x. x < 2 ^ w) xs) where
  -- where the last block is full, nothing stands past the bits
  pub canonical_at_full : n % w ≡ 0 → IsCanonical n xs w
  canonical_at_full full =
      let last : length xs ≤ n / w = omega (arith, count, (need_at_full w wide n full).0) in
      rw add-zero at (Stores-built w wide n xs [] xs (count ∙ ap (λ m. need m w) (sym (add-zero n)))
      within (AreBuilt-upto _ (AreBuilt-start w wide n xs []) last)).canonical

  -- elsewhere the last block is masked
  pub mask_last : n % w ≢ 0 → (y : ℕ) → ((j : ℕ) → j < w → place j y
      ≡ (place j (get_or xs (n / w) 0) && ltb j (n % w))) → y < 2 ^ w
      → Stores w n (set xs (n / w) y) (unpacking n xs w)
  mask_last partial y places small =
      let block = get_or xs (n / w) 0 in
      let start = div-add-mod' n w in
      let last = (need_at_open w wide n partial).0 in
      rw (add-zero, append-nil) at (Stores-last w wide n xs [] (count ∙ last) within
      (ap (λ m. need m w) (add-zero n) ∙ last) y small (record {
        each = λ j below. places j below ∙ elim (cases_lt j (n % w)) [
          | inl low ↦ ap (λ t. place j block && t) (lt-ltb j (n % w) low) ∙ and-true (place j block)
              ∙ sym (item-low w wide n xs [] (n / w * w + j) (omega arith)
              ∙ bit_at-in_block xs w (n / w) j below)
          | inr high ↦ and_right (place j block) (ltb j (n % w)) (le-ltb j (n % w) high)
              ∙ sym (item-high w wide n xs [] (n / w * w + j) (omega arith))
        ];
      }))

-- the same of items with a number each; u is the width as the code read it, and m the mask
module _ {X : Type 0} (number : X → ℕ) (w : ℕ) (wide : 0 < w) (n : ℕ) (items : List X)
    (count : length items ≡ need n w) (u : ℕ) (same : u ≡ w) where
  pub canonical_at_full_width : All (λ x. x < 2 ^ w) (map number items) → n % u ≡ 0
      → IsCanonical n (map number items) w
  canonical_at_full_width within full = canonical_at_full w wide n (map number items)
      (length-map items number ∙ count) within (rw same at full)

  pub last_in_items : n % u ≢ 0 → n / u < length items
  last_in_items partial = rw same (omega (
    arith,
    count,
    (need_at_open w wide n (rw same at partial)).0,
  ))

  pub mask_last_at : All (λ x. x < 2 ^ w) (map number items) → n % u ≢ 0 → (x y : X) (m : ℕ) → x
      ≡ get_or items (n / u) x → number y < 2 ^ w
      → HasPlaces w (number y) (λ j. place j (number x) && place j m)
      → HasPlaces w m (λ j. ltb j (n % u))
      → Stores w n (map number (set items (n / u) y)) (unpacking n (map number items) w)
  mask_last_at within partial x y m read small places mask =
      let xs = map number items in
      let block : number x ≡ get_or xs (n / w) 0 =
      ap number read ∙ sym (get_or-map number items (n / u) x 0 (last_in_items partial))
      ∙ ap (λ k. get_or xs (n / k) 0) same in
      let masked = λ (j : ℕ) (k : j < w). places.each j k
      ∙ ap (λ b. place j (number x) && b) (mask.each j k ∙ ap (λ k. ltb j (n % k)) same)
      ∙ ap (λ b. place j b && ltb j (n % w)) block in
      let both = mask_last w wide n xs (length-map items number ∙ count) within
      (rw same at partial) (number y) masked small in
      rw (same, map-set) both

-- the first of the blocks that n bits need, as many as m need; u is the width as the code read it
module _ {X : Type 0} (number : X → ℕ) (w : ℕ) (wide : 0 < w) (n : ℕ) (items : List X)
    (count : length items ≡ need n w) (m : ℕ) (shorter : m ≤ n) (u k : ℕ) (same : u ≡ w)
    (needed : k ≡ m / u + min 1 (m % u)) where
  kept_is : k ≡ need m w
  kept_is = needed ∙ ap (λ v. m / v + min 1 (m % v)) same ∙ div_ceil-need w wide m

  pub length-kept : length (take k items) ≡ need m w
  length-kept = length-take-le k items (omega
      (arith, kept_is, need-le-need w wide m n shorter, count)) ∙ kept_is

  pub unpacking-kept : unpacking m (map number (take k items)) w
      ≡ take m (unpacking n (map number items) w)
  unpacking-kept =
      ap (λ xs. unpacking m xs w) (sym (take-map number k items)
      ∙ ap (λ q. take q (map number items)) kept_is)
      ∙ unpacking-take w wide m (map number items)
      ∙ sym (take-unpacking m n (map number items) w shorter)
