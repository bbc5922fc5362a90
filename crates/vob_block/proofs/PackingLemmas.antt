-- What blocks store, and that packing and unpacking undo each other on canonical storage.
use Rattle.std.specs.Prelude.{All, take, true}
use Rattle.std.proofs.Common.{◌≡◌, ◌≢◌, ℕ, ◌+◌, ◌*◌, ◌/◌, ◌%◌, ◌^◌, ◌<◌, ◌≤◌, Bool, false, List}
use Rattle.std.proofs.Common.{length, get_or, set, refl, sym, ap, ◌∙◌, subst, arith, inl}
use Rattle.std.proofs.Common.{inr, mod-lt, zero-add, div-add-mod'}
use Rattle.std.proofs.lemmas.Bool.{cases_lt, false≢true}
use Rattle.std.proofs.lemmas.List.{ext_get_or, get_or-set_same, get_or-set_other, get_or_past}
use Rattle.std.proofs.lemmas.List.FromFn.{length-map-range_with_len, get_or-map-range_with_len}
use Rattle.std.proofs.lemmas.List.FromFn.{take-map-range_with_len}
use Rattle.std.proofs.lemmas.List.Elements.{All-from_get_or, All-get_or}
use Rattle.std.proofs.lemmas.Nat.{div-mul-add, mod-mul-add}
use Rattle.vob_block.specs.Places.{place, value}
use Rattle.vob_block.specs.Packing.{item, need, packing, bit_at, unpacking, IsCanonical, Stores}
use Rattle.vob_block.proofs.PlaceLemmas.{same_from_places, place-zero}
use Rattle.vob_block.proofs.ValueLemmas.{value-lt, place-value}
use Rattle.vob_block.proofs.NeedLemmas.{div-lt-need}

-- ---- what some blocks store

-- place j of block k is bit k * w + j
pub bit_at-in_block : (xs : List ℕ) (w k j : ℕ) → j < w → bit_at xs w (k * w + j)
    ≡ place j (get_or xs k 0)
unfolding bit_at
bit_at-in_block xs w k j h = ap (λ i. place i (get_or xs ((k * w + j) / w) 0))
    (mod-mul-add k w j h) ∙ ap (λ i. place j (get_or xs i 0)) (div-mul-add k w j h)

pub bit_at-is_place : (xs : List ℕ) (w i : ℕ) → bit_at xs w i ≡ place (i % w) (get_or xs (i / w) 0)
unfolding bit_at
bit_at-is_place xs w i = refl

-- nothing is stored past the last block
pub bit_at-past : (xs : List ℕ) (w i : ℕ) → length xs ≤ i / w → bit_at xs w i ≡ false
bit_at-past xs w i h = bit_at-is_place xs w i ∙ ap (place (i % w)) (get_or_past xs (i / w) 0 h)
    ∙ place-zero (i % w)

pub bit_at-set_same : (xs : List ℕ) (w k y i : ℕ) → k < length xs → i / w ≡ k
    → bit_at (set xs k y) w i ≡ place (i % w) y
bit_at-set_same xs w k y i h e = bit_at-is_place (set xs k y) w i
    ∙ ap (λ q. place (i % w) (get_or (set xs k y) q 0)) e
    ∙ ap (place (i % w)) (get_or-set_same xs k y 0 h)

pub bit_at-set_other : (xs : List ℕ) (w k y i : ℕ) → i / w ≢ k → bit_at (set xs k y) w i
    ≡ bit_at xs w i
bit_at-set_other xs w k y i n = bit_at-is_place (set xs k y) w i
    ∙ ap (place (i % w)) (get_or-set_other xs k (i / w) y 0 n) ∙ sym (bit_at-is_place xs w i)

-- ---- the list that some blocks unpack to

pub length-unpacking : (n : ℕ) (xs : List ℕ) (w : ℕ) → length (unpacking n xs w) ≡ n
unfolding unpacking
length-unpacking n xs w = length-map-range_with_len (bit_at xs w) 0 n

pub get_or-unpacking : (n : ℕ) (xs : List ℕ) (w i : ℕ) (d : Bool) → i < n
    → get_or (unpacking n xs w) i d ≡ bit_at xs w i
unfolding unpacking
get_or-unpacking n xs w i d h = get_or-map-range_with_len (bit_at xs w) 0 n i i d h (zero-add i)

-- blocks unpack to a list where each of its bits is stored
pub unpacking_from_items : (bits : List Bool) (n : ℕ) (xs : List ℕ) (w : ℕ) → length bits ≡ n
    → ((i : ℕ) → i < n → bit_at xs w i ≡ item bits i) → unpacking n xs w ≡ bits
unpacking_from_items bits n xs w e same =
    ext_get_or false (unpacking n xs w) bits (length-unpacking n xs w ∙ sym e) (λ i h.
    let inside : i < n = subst (λ (m : ℕ). i < m) (length-unpacking n xs w) h in
    get_or-unpacking n xs w i false inside ∙ same i inside)

-- ---- canonical storage

module _ (w : ℕ) (wide : 0 < w) where
  -- it stores the list that it unpacks to, and false everywhere else
  pub bit_at-is_item : (n : ℕ) (xs : List ℕ) → IsCanonical n xs w → (i : ℕ) → bit_at xs w i
      ≡ item (unpacking n xs w) i
  bit_at-is_item n xs h i = elim (cases_lt i n) [
    | inl inside ↦ sym (get_or-unpacking n xs w i false inside)
    | inr past ↦ h.unused i past ∙ sym (get_or_past (unpacking n xs w) i false
        (omega (arith, length-unpacking n xs w)))
  ]

  -- blocks that hold a list, false everywhere else, and are no more than it needs, store it
  pub stores_from_items : (bits : List Bool) (n : ℕ) (xs : List ℕ) → length bits ≡ n
      → length xs ≡ need n w
      → All (λ x. x < 2 ^ w) xs → ((i : ℕ) → bit_at xs w i ≡ item bits i) → Stores w n xs bits
  stores_from_items bits n xs e count within same = record {
    canonical = record {
      count = count;
      within = within;
      unused = λ i h. same i ∙ get_or_past bits i false (omega arith);
    };
    bits = unpacking_from_items bits n xs w e (λ i _. same i);
  }

  -- ---- the packing of a list

  pub length-packing : (bits : List Bool) → length (packing bits w) ≡ need (length bits) w
  unfolding packing
  length-packing bits = length-map-range_with_len (λ k. value w (λ j. item bits (k * w + j))) 0
      (need (length bits) w)

  get_or-packing : (bits : List Bool) (k : ℕ) → k < need (length bits) w
      → get_or (packing bits w) k 0 ≡ value w (λ j. item bits (k * w + j))
  unfolding packing
  get_or-packing bits k h = get_or-map-range_with_len (λ q. value w (λ j. item bits (q * w + j)))
      0 (need (length bits) w) k k 0 h (zero-add k)

  -- it stores the list, and false everywhere else
  pub bit_at-packing : (bits : List Bool) (i : ℕ) → bit_at (packing bits w) w i ≡ item bits i
  bit_at-packing bits i =
      let whole = div-add-mod' i w in
      elim (cases_lt (i / w) (need (length bits) w)) [
        | inl inside ↦
            bit_at-is_place (packing bits w) w i
            ∙ ap (place (i % w)) (get_or-packing bits (i / w) inside)
            ∙ place-value w (i % w) (λ j. item bits (i / w * w + j)) (mod-lt i wide)
            ∙ ap (item bits) whole
        | inr past ↦
            let long : length bits ≤ i = elim (cases_lt i (length bits)) [
              | inl short ↦ absurd (omega (arith, div-lt-need w wide (length bits) i short))
              | inr fine ↦ fine
            ] in
            bit_at-past (packing bits w) w i (omega (arith, length-packing bits))
            ∙ sym (get_or_past bits i false long)
      ]

  pub packing-within : (bits : List Bool) → All (λ x. x < 2 ^ w) (packing bits w)
  packing-within bits = All-from_get_or (λ x. x < 2 ^ w) (packing bits w) 0 (λ k h.
      let inside : k < need (length bits) w = omega (arith, length-packing bits) in
      subst (λ (x : ℕ). x < 2 ^ w) (sym (get_or-packing bits k inside))
      (value-lt w (λ j. item bits (k * w + j))))

  -- the packing of a list is canonical, and unpacks to the list
  pub IsCanonical-packing : (bits : List Bool) → IsCanonical (length bits) (packing bits w) w
  IsCanonical-packing bits = (stores_from_items bits (length bits) (packing bits w) refl
      (length-packing bits) (packing-within bits) (bit_at-packing bits)).canonical

  pub unpacking-packing : (bits : List Bool) → unpacking (length bits) (packing bits w) w ≡ bits
  unpacking-packing bits = unpacking_from_items bits (length bits) (packing bits w) w refl
      (λ i _. bit_at-packing bits i)

  -- blocks as many that store the same are the same
  pub same_from_bits : (xs ys : List ℕ) → length xs ≡ length ys → All (λ x. x < 2 ^ w) xs
      → All (λ x. x < 2 ^ w) ys
      → ((i : ℕ) → i / w < length xs → bit_at xs w i ≡ bit_at ys w i) → xs ≡ ys
  same_from_bits xs ys long xs-in ys-in same = ext_get_or 0 xs ys long (λ k inside.
      same_from_places w (get_or xs k 0) (get_or ys k 0)
      (All-get_or (λ x. x < 2 ^ w) xs k 0 inside xs-in)
      (All-get_or (λ x. x < 2 ^ w) ys k 0 (omega (arith, long)) ys-in)
      (λ j below. sym (bit_at-in_block xs w k j below)
      ∙ same (k * w + j) (omega (arith, div-mul-add k w j below))
      ∙ bit_at-in_block ys w k j below))

  -- canonical storage is the packing of the list that it unpacks to
  pub packing-unpacking : (n : ℕ) (xs : List ℕ) → IsCanonical n xs w
      → packing (unpacking n xs w) w ≡ xs
  packing-unpacking n xs h =
      let bits = unpacking n xs w in
      let packed = subst (λ (m : ℕ). IsCanonical m (packing bits w) w) (length-unpacking n xs w)
      (IsCanonical-packing bits) in
      same_from_bits (packing bits w) xs (packed.count ∙ sym h.count) packed.within h.within
      (λ i _. bit_at-packing bits i ∙ sym (bit_at-is_item n xs h i))

  -- and nothing else is canonical
  pub canonical_from_packing : (n : ℕ) (xs : List ℕ) → xs ≡ packing (unpacking n xs w) w
      → IsCanonical n xs w
  canonical_from_packing n xs e =
      let bits = unpacking n xs w in
      let packed = subst (λ (m : ℕ). IsCanonical m (packing bits w) w) (length-unpacking n xs w)
      (IsCanonical-packing bits) in
      subst (λ (ys : List ℕ). IsCanonical n ys w) (sym e) packed

  -- the packing of a list stores it
  pub packing_is : (bits : List Bool) (n : ℕ) (xs : List ℕ) → xs ≡ packing bits w → length bits
      ≡ n → Stores w n xs bits
  packing_is bits n xs is long = record {
    canonical = subst (λ (ys : List ℕ). IsCanonical n ys w) (sym is)
        (subst (λ (m : ℕ). IsCanonical m (packing bits w) w) long (IsCanonical-packing bits));
    bits = ap (λ ys. unpacking n ys w) is ∙ ap (λ m. unpacking m (packing bits w) w) (sym long)
        ∙ unpacking-packing bits;
  }

-- ---- bits of a list

-- a set bit is within
pub true_inside : (bits : List Bool) (index : ℕ) → item bits index ≡ true → index < length bits
true_inside bits index there = elim (cases_lt index (length bits)) [
  | inl inside ↦ inside
  | inr past ↦ absurd (false≢true (sym (get_or_past bits index false past) ∙ there))
]

-- the blocks of a list hold its bits
pub bit-in_blocks : (w : ℕ) → 0 < w → (bits : List Bool) (xs : List ℕ) → xs ≡ packing bits w
    → (i : ℕ) → bit_at xs w i ≡ item bits i
bit-in_blocks w wide bits xs blocks i =
    ap (λ ys. bit_at ys w i) blocks ∙ bit_at-packing w wide bits i

-- the first m of n bits
pub take-unpacking : (m n : ℕ) (xs : List ℕ) (w : ℕ) → m ≤ n → take m (unpacking n xs w)
    ≡ unpacking m xs w
unfolding unpacking
take-unpacking m n xs w h = take-map-range_with_len (bit_at xs w) 0 n m h
