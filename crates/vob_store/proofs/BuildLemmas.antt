-- Blocks stored one after another so that they hold wanted bits, at a plain width.
use Rattle.std.specs.Prelude.{All}
use Rattle.std.proofs.Common.{◌≡◌, ℕ, ◌+◌, ◌-◌, ◌*◌, ◌/◌, ◌%◌, ◌^◌, ◌<◌, ◌≤◌, Bool, false, List}
use Rattle.std.proofs.Common.{◌++◌, length, map, get_or, set, drop, take, ltb, refl, sym, ap, ◌∙◌}
use Rattle.std.proofs.Common.{arith, inl, inr, mod-lt, div-add-mod', add-mul, one-mul}
use Rattle.std.proofs.lemmas.Bool.{cases_lt, cases_eq, lt-ltb, le-ltb, cond-true, cond-false}
use Rattle.std.proofs.lemmas.List.{length-set, length-append, get_or-map, get_or-drop}
use Rattle.std.proofs.lemmas.List.{get_or_append_left, get_or-append_right, get_or_past}
use Rattle.std.proofs.lemmas.List.{get_or-take, length-take-le, drop_at}
use Rattle.std.proofs.lemmas.List.Elements.{All-set}
use Rattle.std.proofs.lemmas.Nat.{mul-le, le-div}
use Rattle.std.proofs.Math.Nat.{add-mul-div_right}
use Rattle.vob_block.specs.Places.{place, HasPlaces}
use Rattle.vob_block.specs.Packing.{item, need, bit_at, unpacking, Stores}
use Rattle.vob_block.proofs.NeedLemmas.{need_enough}
use Rattle.vob_block.proofs.PackingLemmas.{bit_at-in_block, bit_at-is_place, bit_at-past}
use Rattle.vob_block.proofs.PackingLemmas.{bit_at-set_same, bit_at-set_other, length-unpacking}
use Rattle.vob_block.proofs.PackingLemmas.{get_or-unpacking, stores_from_items}
use Rattle.vob_store.specs.Building.{AreBuilt, joined_bit}

-- a block read from some items, by its number
pub number_indexed : {X : Type 0} (number : X → ℕ) (items : List X) (k : ℕ) (x : X)
    → k < length items → x ≡ get_or items k x → number x ≡ get_or (map number items) k 0
number_indexed number items k x inside read = ap number read
    ∙ sym (get_or-map number items k x 0 inside)

-- ---- block after block

pub AreBuilt-none : {w : ℕ} {xs : List ℕ} {wanted : ℕ → Bool} → AreBuilt w 0 xs wanted
AreBuilt-none = record { each = λ i h. absurd (omega arith) }

-- fewer of them are built too, and the same bits may be wanted in other words
pub AreBuilt-upto : {w k : ℕ} {xs : List ℕ} {wanted : ℕ → Bool} (m : ℕ) → AreBuilt w k xs wanted
    → m ≤ k → AreBuilt w m xs wanted
AreBuilt-upto m h fewer = record { each = λ i below. h.each i (omega arith) }

pub AreBuilt-same : {w k : ℕ} {xs : List ℕ} {f wanted : ℕ → Bool} → AreBuilt w k xs f
    → ((i : ℕ) → f i ≡ wanted i) → AreBuilt w k xs wanted
AreBuilt-same h same = record { each = λ i below. h.each i below ∙ same i }

module _ (w : ℕ) (wide : 0 < w) where
  pub AreBuilt-more : (wanted : ℕ → Bool) (xs : List ℕ) (k y : ℕ) → AreBuilt w k xs wanted
      → k < length xs → HasPlaces w y (λ j. wanted (k * w + j))
      → AreBuilt w (k + 1) (set xs k y) wanted
  AreBuilt-more wanted xs k y h inside places = record {
    each = λ i below. elim (cases_eq (i / w) k) [
      | inl here ↦
          let whole : k * w + i % w ≡ i = ap (λ q. q * w + i % w) (sym here) ∙ div-add-mod' i w in
          bit_at-set_same xs w k y i inside here ∙ places.each (i % w) (mod-lt i wide)
          ∙ ap wanted whole
      | inr apart ↦ bit_at-set_other xs w k y i apart ∙ h.each i (omega arith)
    ];
  }

  -- a block more of those that are stored as they are
  pub AreBuilt-copy : (others xs : List ℕ) (k y : ℕ) → AreBuilt w k xs (bit_at others w)
      → k < length xs → y ≡ get_or others k 0 → AreBuilt w (k + 1) (set xs k y) (bit_at others w)
  AreBuilt-copy others xs k y h inside is = AreBuilt-more (bit_at others w) xs k y h inside
      (record { each = λ j below. ap (place j) is ∙ sym (bit_at-in_block others w k j below) })

  -- the first blocks as they are
  pub AreBuilt-take : (k : ℕ) (xs : List ℕ) → AreBuilt w k (take k xs) (bit_at xs w)
  AreBuilt-take k xs = record {
    each = λ i below. bit_at-is_place (take k xs) w i
        ∙ ap (place (i % w)) (get_or-take k xs (i / w) 0 below) ∙ sym (bit_at-is_place xs w i);
  }

  -- blocks that hold a list, and are as many as it needs, store it
  pub stores_from_built : (bits : List Bool) (n : ℕ) (xs : List ℕ) → length bits ≡ n
      → length xs ≡ need n w → All (λ x. x < 2 ^ w) xs → AreBuilt w (length xs) xs (item bits)
      → Stores w n xs bits
  stores_from_built bits n xs long count within h =
      stores_from_items w wide bits n xs long count within (λ i.
      elim (cases_lt (i / w) (length xs)) [
        | inl inside ↦ h.each i inside
        | inr past ↦
            let row : length xs * w ≤ i / w * w =
            mul-le (length xs) w (i / w) w past (omega arith) in
            let enough : need n w * w ≡ length xs * w = ap (λ k. k * w) (sym count) in
            bit_at-past xs w i past ∙ sym (get_or_past bits i false
            (omega (arith, need_enough w wide n, div-add-mod' i w)))
      ])

  -- ---- blocks of blocks

  pub bit_at-append_left : (xs ys : List ℕ) (i : ℕ) → i / w < length xs → bit_at (xs ++ ys) w i
      ≡ bit_at xs w i
  bit_at-append_left xs ys i h = bit_at-is_place (xs ++ ys) w i
      ∙ ap (place (i % w)) (get_or_append_left xs ys 0 (i / w) h) ∙ sym (bit_at-is_place xs w i)

  -- bit i of the blocks from block k on
  pub bit_at-drop : (k : ℕ) (xs : List ℕ) (i : ℕ) → bit_at (drop k xs) w i
      ≡ bit_at xs w (k * w + i)
  bit_at-drop k xs i =
      let whole : (k + i / w) * w + i % w ≡ k * w + i =
      omega (arith, add-mul k (i / w) w, div-add-mod' i w) in
      bit_at-is_place (drop k xs) w i ∙ ap (place (i % w)) (get_or-drop k xs (i / w) 0)
      ∙ sym (bit_at-in_block xs w (k + i / w) (i % w) (mod-lt i wide)) ∙ ap (bit_at xs w) whole

  pub bit_at-append_right : (xs ys : List ℕ) (i : ℕ) → bit_at (xs ++ ys) w (length xs * w + i)
      ≡ bit_at ys w i
  bit_at-append_right xs ys i = sym (bit_at-drop (length xs) (xs ++ ys) i)
      ∙ ap (λ zs. bit_at zs w i) (drop_at xs ys (length xs) refl)

  -- ---- bits behind others

  -- the first n bits of some blocks, and a list behind them
  module _ (n : ℕ) (olds : List ℕ) (bits : List Bool) where
    pub item-low : (i : ℕ) → i < n → item (unpacking n olds w ++ bits) i ≡ bit_at olds w i
    item-low i below = get_or_append_left (unpacking n olds w) bits false i
        (omega (arith, length-unpacking n olds w)) ∙ get_or-unpacking n olds w i false below

    pub item-high : (i : ℕ) → n ≤ i → item (unpacking n olds w ++ bits) i ≡ item bits (i - n)
    item-high i above = get_or-append_right (unpacking n olds w) bits n i false
        (length-unpacking n olds w) above

    pub Stores-built : (xs : List ℕ) → length xs ≡ need (n + length bits) w
        → All (λ x. x < 2 ^ w) xs → AreBuilt w (length xs) xs (item (unpacking n olds w ++ bits))
        → Stores w (n + length bits) xs (unpacking n olds w ++ bits)
    Stores-built xs = stores_from_built (unpacking n olds w ++ bits) (n + length bits) xs
        (length-append (unpacking n olds w) bits
        ∙ ap (λ m. m + length bits) (length-unpacking n olds w))

    -- the blocks before that of bit n hold them as they are
    pub AreBuilt-start : AreBuilt w (n / w) olds (item (unpacking n olds w ++ bits))
    AreBuilt-start = record {
      each = λ i below. elim (cases_lt i n) [
        | inl fine ↦ sym (item-low i fine)
        | inr past ↦ absurd (omega (
          arith,
          le-div (n / w) i w wide (omega (arith, div-add-mod' n w)),
        ))
      ];
    }

    -- and with that block stored anew, behind which there is none, they hold the list
    pub Stores-last : length olds ≡ n / w + 1 → All (λ x. x < 2 ^ w) olds
        → need (n + length bits) w ≡ n / w + 1 → (y : ℕ) → y < 2 ^ w
        → HasPlaces w y (λ j. item (unpacking n olds w ++ bits) (n / w * w + j))
        → Stores w (n + length bits) (set olds (n / w) y) (unpacking n olds w ++ bits)
    Stores-last last within count y small places =
        let long = length-set olds (n / w) y in
        Stores-built (set olds (n / w) y) (omega (arith, long, last, count))
        (All-set (λ x. x < 2 ^ w) olds (n / w) y small within)
        (AreBuilt-upto _ (AreBuilt-more (item (unpacking n olds w ++ bits)) olds (n / w) y
        AreBuilt-start (omega (arith, last)) places) (omega (arith, long, last)))

  -- the same where other blocks hold that list
  module _ (n : ℕ) (olds others : List ℕ) where
    joined-low : (i : ℕ) → i < n → joined_bit w n olds others i ≡ bit_at olds w i
    joined-low i below = cond-true (ltb i n) (bit_at olds w i) (bit_at others w (i - n))
        (lt-ltb i n below)

    joined-high : (i : ℕ) → n ≤ i → joined_bit w n olds others i ≡ bit_at others w (i - n)
    joined-high i above = cond-false (ltb i n) (bit_at olds w i) (bit_at others w (i - n))
        (le-ltb i n above)

    pub joined-is_item : (bits : List Bool) → ((j : ℕ) → bit_at others w j ≡ item bits j)
        → (i : ℕ) → joined_bit w n olds others i ≡ item (unpacking n olds w ++ bits) i
    joined-is_item bits its i = elim (cases_lt i n) [
      | inl below ↦ joined-low i below ∙ sym (item-low n olds bits i below)
      | inr above ↦ joined-high i above ∙ its (i - n) ∙ sym (item-high n olds bits i above)
    ]

  -- the blocks from block a on built anew, behind those before
  pub AreBuilt-behind : (a n : ℕ) (olds ys others : List ℕ) → a ≤ length olds
      → AreBuilt w (length ys) ys (joined_bit w n (drop a olds) others)
      → AreBuilt w (length (take a olds ++ ys)) (take a olds ++ ys)
      (joined_bit w (a * w + n) olds others)
  AreBuilt-behind a n olds ys others inside h = record {
    each = λ i below. elim (cases_lt (i / w) a) [
      | inl front ↦
          let row = mul-le (i / w + 1) w a w (omega arith) (omega arith) in
          let low : i < a * w = omega (
            arith,
            row,
            add-mul (i / w) 1 w,
            one-mul w,
            div-add-mod' i w,
            mod-lt i wide,
          ) in
          bit_at-append_left (take a olds) ys i (omega (arith, long))
          ∙ (AreBuilt-take a olds).each i front
          ∙ sym (joined-low (a * w + n) olds others i (omega (arith, low)))
      | inr past ↦
          let row : a * w ≤ i / w * w = mul-le a w (i / w) w past (omega arith) in
          let j = i - a * w in
          let whole : j + a * w ≡ i = omega (arith, row, div-add-mod' i w) in
          let quotient : i / w ≡ j / w + a =
          ap (λ k. k / w) (sym whole) ∙ add-mul-div_right j a wide in
          ap (bit_at (take a olds ++ ys) w) (sym whole ∙ omega (arith, ap (λ k. k * w) long))
          ∙ bit_at-append_right (take a olds) ys j
          ∙ h.each j (omega (arith, quotient, length-append (take a olds) ys, long))
          ∙ elim (cases_lt j n) [
            | inl few ↦ joined-low n (drop a olds) others j few ∙ bit_at-drop a olds j
                ∙ ap (bit_at olds w) (omega (arith, whole))
                ∙ sym (joined-low (a * w + n) olds others i (omega (arith, whole)))
            | inr more ↦ joined-high n (drop a olds) others j more
                ∙ ap (bit_at others w) (omega (arith, whole))
                ∙ sym (joined-high (a * w + n) olds others i (omega (arith, whole)))
          ]
    ];
  }
    where
      long : length (take a olds) ≡ a
      long = length-take-le a olds inside
