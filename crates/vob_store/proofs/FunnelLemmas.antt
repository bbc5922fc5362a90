-- Blocks that are each made of two neighbours, and the bits from some index on, at a plain width.
use Rattle.std.proofs.Common.{◌≡◌, ◌≢◌, ℕ, ◌+◌, ◌-◌, ◌*◌, ◌/◌, ◌%◌, ◌<◌, ◌≤◌, false, cond, List, length}
use Rattle.std.proofs.Common.{get_or, set, drop, take, map, ltb, sym, ap, ◌∙◌, arith, inl, inr}
use Rattle.std.proofs.Common.{div-add-mod', add-mul, one-mul}
use Rattle.std.proofs.lemmas.Bool.{cases_lt, lt-ltb, le-ltb, cond-true, cond-false}
use Rattle.std.proofs.lemmas.List.{length-drop, get_or-drop, drop-map, take_rest}
use Rattle.std.proofs.lemmas.Nat.{mul-le}
use Rattle.vob_block.specs.Places.{place, HasPlaces}
use Rattle.vob_block.specs.Packing.{need, bit_at, unpacking, Stores}
use Rattle.vob_block.proofs.NeedLemmas.{need-le-need, div-lt-need}
use Rattle.vob_block.proofs.PackingLemmas.{bit_at-in_block, length-unpacking, get_or-unpacking, unpacking_from_items}
use Rattle.vob_store.specs.Building.{AreBuilt}
use Rattle.vob_store.proofs.BuildLemmas.{AreBuilt-more, bit_at-drop}
use Rattle.vob_store.proofs.RoomLemmas.{need-add}

-- a block made of two neighbours holds the bits from place `from` of the lower one on
module _ (w : ℕ) (source : List ℕ) (from : ℕ) where
  pub places-funnel : (k y a b : ℕ) → from < w → a ≡ get_or source k 0
      → b ≡ get_or source (k + 1) 0
      → HasPlaces w y (λ j. cond (ltb (j + from) w) (place (j + from) a)
      (place (j + from - w) b)) → HasPlaces w y (λ j. bit_at source w (from + (k * w + j)))
  places-funnel k y a b inside low high places = record {
    each = λ j below. places.each j below ∙ elim (cases_lt (j + from) w) [
      | inl less ↦
          cond-true (ltb (j + from) w) (place (j + from) a) (place (j + from - w) b)
          (lt-ltb (j + from) w less) ∙ ap (place (j + from)) low
          ∙ sym (bit_at-in_block source w k (j + from) less)
          ∙ ap (bit_at source w) (omega arith)
      | inr past ↦
          cond-false (ltb (j + from) w) (place (j + from) a) (place (j + from - w) b)
          (le-ltb (j + from) w past) ∙ ap (place (j + from - w)) high
          ∙ sym (bit_at-in_block source w (k + 1) (j + from - w) (omega arith))
          ∙ ap (bit_at source w) (omega (arith, add-mul k 1 w, one-mul w))
    ];
  }

-- a block more of those that hold the bits of some blocks from place `from` on
module _ (w : ℕ) (wide : 0 < w) (source : List ℕ) (from : ℕ) where
  pub AreBuilt-funnel : (xs : List ℕ) (k y a b : ℕ) → from < w
      → AreBuilt w k xs (λ i. bit_at source w (from + i)) → k < length xs → a ≡ get_or source k 0
      → b ≡ get_or source (k + 1) 0
      → HasPlaces w y (λ j. cond (ltb (j + from) w) (place (j + from) a)
      (place (j + from - w) b)) → AreBuilt w (k + 1) (set xs k y) (λ i. bit_at source w (from + i))
  AreBuilt-funnel xs k y a b inside h room low high places =
      AreBuilt-more w wide (λ i. bit_at source w (from + i)) xs k y h room
      (places-funnel w source from k y a b inside low high places)

-- the bits from index `at` on, of the first n ones, stand in the items from that of bit `at` on; u is
-- the width as the code read it
module _ {X : Type 0} (number : X → ℕ) (w : ℕ) (wide : 0 < w) (n at : ℕ) (items : List X)
    (count : need n w ≤ length items) (inside : at < n) (u : ℕ) (same : u ≡ w) where
  abbrev pub tail : List X
  tail = take (length items - at / u) (drop (at / u) items)

  -- there are as many as those bits need
  in_range : (at / w ≤ length items) × (need (n - at) w ≤ length items - at / w)
  in_range =
      let most = need-le-need w wide (n - at) (n - at / w * w) (omega (arith, div-add-mod' at w)) in
      let whole : at / w * w + (n - at / w * w) ≡ n = omega (arith, div-add-mod' at w) in
      let sum = sym (need-add w wide (at / w) (n - at / w * w)) ∙ ap (λ m. need m w) whole in (
        omega (arith, sum, count),
        omega (arith, most, sum, count),
      )

  pub start-le : at / u ≤ length items
  start-le = rw same in_range.0

  pub need-le-tail : need (n - at) w ≤ length tail
  need-le-tail =
      let long : length tail ≡ length items - at / u =
      ap length (take_rest items (at / u)) ∙ length-drop (at / u) items in
      rw (long, same) in_range.1

  -- they unpack to them once they are moved down
  unpacking-tail : (ys : List ℕ) → length ys ≡ need (n - at) w
      → AreBuilt w (length ys) ys (λ i. bit_at (map number tail) w (at % u + i))
      → unpacking (n - at) ys w ≡ drop at (unpacking n (map number items) w)
  unpacking-tail ys long built =
      let xs = map number items in
      let bits = unpacking n xs w in
      let blocks : map number tail ≡ drop (at / w) xs = ap (map number) (take_rest items (at / u))
      ∙ sym (drop-map number (at / u) items) ∙ ap (λ v. drop (at / v) xs) same in
      unpacking_from_items (drop at bits) (n - at) ys w
      (length-drop at bits ∙ ap (λ l. l - at) (length-unpacking n xs w))
      (λ i below. built.each i (omega (arith, long, div-lt-need w wide (n - at) i below))
      ∙ ap (λ zs. bit_at zs w (at % u + i)) blocks
      ∙ ap (λ v. bit_at (drop (at / w) xs) w (at % v + i)) same
      ∙ bit_at-drop w wide (at / w) xs (at % w + i)
      ∙ ap (bit_at xs w) (omega (arith, div-add-mod' at w))
      ∙ sym (get_or-unpacking n xs w (at + i) false (omega arith))
      ∙ sym (get_or-drop at bits i false))

  -- and so what then unpacks to the same stores them
  pub Stores-tail : (ys zs : List ℕ) → length ys ≡ need (n - at) w
      → AreBuilt w (length ys) ys (λ i. bit_at (map number tail) w (at % u + i))
      → Stores w (n - at) zs (unpacking (n - at) ys w)
      → Stores w (n - at) zs (drop at (unpacking n (map number items) w))
  Stores-tail ys zs long built stored =
      record { canonical = stored.canonical; bits = stored.bits ∙ unpacking-tail ys long built }

-- the block that a stretch of whole blocks begins in is there, and the one after it if places are left
pub skip-inside : (w u first by n : ℕ) → 0 < w → u ≡ w → first * w + by ≤ n * w
    → first + by / u ≤ n
skip-inside w u first by n wide same inside = rw same (elim (cases_lt n (first + by / w)) [
  | inr there ↦ there
  | inl less ↦
      let row = mul-le (n + 1) w (first + by / w) w (omega (arith, less)) (omega arith) in
      absurd (omega (
        arith,
        row,
        wide,
        inside,
        add-mul first (by / w) w,
        add-mul n 1 w,
        one-mul w,
        div-add-mod' by w,
      ))
])

pub skip-below : (w u first by n : ℕ) → u ≡ w → by % u ≢ 0 → first * w + by ≤ n * w
    → first + by / u < n
skip-below w u first by n same some inside = rw same (elim (cases_lt (first + by / w) n) [
  | inl there ↦ there
  | inr past ↦
      let row = mul-le n w (first + by / w) w past (omega arith) in
      let left : by % w ≢ 0 = rw same at some in
      absurd (omega (arith, row, left, inside, add-mul first (by / w) w, div-add-mod' by w))
])
