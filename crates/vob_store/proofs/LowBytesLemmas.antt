-- Bytes of which the least significant bit is first: blocks of eight places.
use Rattle.std.specs.Prelude.{All}
use Rattle.std.specs.Int.{w64, from_le_bytes}
use Rattle.std.proofs.Common.{◌≡◌, ℕ, ◌+◌, ◌-◌, ◌*◌, ◌/◌, ◌%◌, ◌^◌, ◌<◌, ◌≤◌, Bool, false, List, ◌++◌}
use Rattle.std.proofs.Common.{length, get_or, take, drop, refl, sym, ap, ◌∙◌, arith, inl, inr}
use Rattle.std.proofs.lemmas.Bool.{cases_lt}
use Rattle.std.proofs.lemmas.List.{ext_get_or, get_or_past, get_or_append_left, get_or-append_right}
use Rattle.std.proofs.lemmas.List.{get_or-take, get_or-drop, length-take, length-drop, length-take-le}
use Rattle.std.proofs.lemmas.List.Elements.{All-from_get_or}
use Rattle.vob_block.specs.Places.{place, HasPlaces}
use Rattle.vob_block.specs.Packing.{item, need, bit_at, packing, unpacking, IsCanonical}
use Rattle.vob_block.proofs.NeedLemmas.{need_enough, need_least}
use Rattle.vob_block.proofs.PackingLemmas.{bit_at-in_block, bit_at-is_item, bit_at-is_place, bit_at-past, get_or-unpacking, length-unpacking, packing-unpacking, stores_from_items}
use Rattle.vob_store.proofs.ReverseLemmas.{place-sum}

-- the bits of some bytes
abbrev pub low_bits : List ℕ → List Bool
low_bits bytes = unpacking (8 * length bytes) bytes 8

pub length-low_bits : (bytes : List ℕ) → length (low_bits bytes) ≡ 8 * length bytes
length-low_bits bytes = length-unpacking (8 * length bytes) bytes 8

pub item-low_bits : (bytes : List ℕ) (i : ℕ) → item (low_bits bytes) i ≡ bit_at bytes 8 i
item-low_bits bytes i = elim (cases_lt i (8 * length bytes)) [
  | inl less ↦ get_or-unpacking (8 * length bytes) bytes 8 i false less
  | inr past ↦ get_or_past (low_bits bytes) i false (omega (arith, past, length-low_bits bytes))
      ∙ sym (bit_at-past bytes 8 i (omega (arith, past)))
]

-- the same bytes, from another index on
bit_at-same : (xs ys : List ℕ) (i n : ℕ) → get_or xs (i / 8) 0 ≡ get_or ys (n + i / 8) 0
    → bit_at xs 8 i ≡ bit_at ys 8 (8 * n + i)
bit_at-same xs ys i n same =
    let low : (8 * n + i) % 8 ≡ i % 8 = omega arith in
    let high : (8 * n + i) / 8 ≡ n + i / 8 = omega arith in
    bit_at-is_place xs 8 i ∙ ap (place (i % 8)) same
    ∙ ap (λ q. place (i % 8) (get_or ys q 0)) (sym high)
    ∙ ap (λ r. place r (get_or ys ((8 * n + i) / 8) 0)) (sym low)
    ∙ sym (bit_at-is_place ys 8 (8 * n + i))

pub low_bits-take : (n : ℕ) (bytes : List ℕ) → low_bits (take n bytes) ≡ take (8 * n) (low_bits bytes)
low_bits-take n bytes = ext_get_or false (low_bits (take n bytes)) (take (8 * n) (low_bits bytes))
    (omega (
      arith,
      length-low_bits (take n bytes),
      length-take n bytes,
      length-take (8 * n) (low_bits bytes),
      length-low_bits bytes,
    ))
    (λ i h.
    let inside : i < 8 * n = omega (arith, length-low_bits (take n bytes), length-take n bytes, h) in
    item-low_bits (take n bytes) i
    ∙ bit_at-same (take n bytes) bytes i 0
    (get_or-take n bytes (i / 8) 0 (omega (arith, inside)) ∙ ap (λ q. get_or bytes q 0) (omega arith))
    ∙ ap (bit_at bytes 8) (omega arith) ∙ sym (item-low_bits bytes i)
    ∙ sym (get_or-take (8 * n) (low_bits bytes) i false inside))

pub low_bits-drop : (n : ℕ) (bytes : List ℕ) → low_bits (drop n bytes) ≡ drop (8 * n) (low_bits bytes)
low_bits-drop n bytes = ext_get_or false (low_bits (drop n bytes)) (drop (8 * n) (low_bits bytes))
    (omega (
      arith,
      length-low_bits (drop n bytes),
      length-drop n bytes,
      length-drop (8 * n) (low_bits bytes),
      length-low_bits bytes,
    ))
    (λ i h.
    item-low_bits (drop n bytes) i
    ∙ bit_at-same (drop n bytes) bytes i n (get_or-drop n bytes (i / 8) 0)
    ∙ sym (item-low_bits bytes (8 * n + i)) ∙ sym (get_or-drop (8 * n) (low_bits bytes) i false))

-- ---- the word of eight bytes

pub low_places : (bytes : List ℕ) → ((i : ℕ) → get_or bytes i 0 < 256) → (x : ℕ)
    → x ≡ from_le_bytes w64 bytes → HasPlaces 64 x (bit_at bytes 8)
low_places bytes small x is = record {
  each = λ j below. ap (place j) is ∙ place-sum bytes small 7 j (omega (arith, below))
      ∙ sym (bit_at-is_place bytes 8 j);
}

-- bytes that are the same, up to zeros behind them, have the same bits
pub low_places_from_same : (x : ℕ) (front bytes : List ℕ)
    → ((k : ℕ) → get_or front k 0 ≡ get_or bytes k 0) → HasPlaces 64 x (bit_at front 8)
    → HasPlaces 64 x (item (low_bits bytes))
low_places_from_same x front bytes same h = record {
  each = λ j below. h.each j below ∙ bit_at-is_place front 8 j
      ∙ ap (place (j % 8)) (same (j / 8)) ∙ sym (bit_at-is_place bytes 8 j)
      ∙ sym (item-low_bits bytes j);
}

pub low_places_taken : (x : ℕ) (front bytes : List ℕ) → front ≡ take 8 bytes
    → HasPlaces 64 x (bit_at front 8) → HasPlaces 64 x (item (take 64 (low_bits bytes)))
low_places_taken x front bytes is h = record {
  each = λ j below. h.each j below ∙ sym (item-low_bits front j)
      ∙ ap (λ bs. item (low_bits bs) j) is ∙ ap (λ bs. item bs j) (low_bits-take 8 bytes);
}

-- ---- the bytes of words

-- eight bytes behind others
pub low_bits-eight : (blocks old bs : List ℕ) (k x : ℕ) → length old ≡ 8 * k → length bs ≡ 8
    → x ≡ get_or blocks k 0 → HasPlaces 64 x (bit_at bs 8)
    → ((i : ℕ) → i < 64 * k → bit_at old 8 i ≡ bit_at blocks 64 i)
    → (i : ℕ) → i < 64 * (k + 1) → bit_at (old ++ bs) 8 i ≡ bit_at blocks 64 i
low_bits-eight blocks old bs k x long eight is places h i below = elim (cases_lt i (64 * k)) [
  | inl low ↦
      bit_at-is_place (old ++ bs) 8 i
      ∙ ap (place (i % 8)) (get_or_append_left old bs 0 (i / 8) (omega (arith, long, low)))
      ∙ sym (bit_at-is_place old 8 i) ∙ h i low
  | inr high ↦
      let j = i - 64 * k in
      let unit : j % 8 ≡ i % 8 = omega (arith, high) in
      let byte : j / 8 ≡ i / 8 - 8 * k = omega (arith, high) in
      let whole : k * 64 + j ≡ i = omega (arith, high) in
      bit_at-is_place (old ++ bs) 8 i
      ∙ ap (place (i % 8)) (get_or-append_right old bs (8 * k) (i / 8) 0 long
      (omega (arith, high)))
      ∙ ap (λ q. place (i % 8) (get_or bs q 0)) (sym byte)
      ∙ ap (λ r. place r (get_or bs (j / 8) 0)) (sym unit)
      ∙ sym (bit_at-is_place bs 8 j) ∙ sym (places.each j (omega (arith, below)))
      ∙ ap (place j) is ∙ sym (bit_at-in_block blocks 64 k j (omega (arith, below)))
      ∙ ap (bit_at blocks 64) whole
]

pub small-append : (old bs : List ℕ) → ((k : ℕ) → get_or old k 0 < 2 ^ 8)
    → ((k : ℕ) → get_or bs k 0 < 2 ^ 8) → (k : ℕ) → get_or (old ++ bs) k 0 < 2 ^ 8
small-append old bs olds news k = elim (cases_lt k (length old)) [
  | inl less ↦ omega (arith, olds k, get_or_append_left old bs 0 k less)
  | inr past ↦ omega (arith, news (k - length old), get_or-append_right old bs (length old) k 0 refl past)
]

-- the first of the bytes of some blocks, as many as their bits need, are the packing of the bits
pub low_packing : (n m : ℕ) (blocks all : List ℕ) → IsCanonical n blocks 64 → m ≡ need n 8
    → length all ≡ 8 * length blocks
    → ((i : ℕ) → i < 64 * length blocks → bit_at all 8 i ≡ bit_at blocks 64 i)
    → ((k : ℕ) → get_or all k 0 < 2 ^ 8) → take m all ≡ packing (unpacking n blocks 64) 8
low_packing n m blocks all h count long each small =
    let bytes = need_enough 8 (omega arith) n in
    let words = need_enough 64 (omega arith) n in
    let fewer = need_least 8 (omega arith) n (8 * length blocks) (omega (arith, words, h.count)) in
    let some : m ≤ length all = omega (arith, fewer, count, long) in
    let few : length (take m all) ≡ m = length-take-le m all some in
    let kept = λ (k : ℕ) (less : k < m). get_or-take m all k 0 less in
    let bits = unpacking n blocks 64 in
    let stores = stores_from_items 8 (omega arith) bits n (take m all) (length-unpacking n blocks 64)
    (few ∙ count) small_taken (λ i. elim (cases_lt i (8 * m)) [
      | inl less ↦
          bit_at-is_place (take m all) 8 i ∙ ap (place (i % 8)) (kept (i / 8) (omega (arith, less)))
          ∙ sym (bit_at-is_place all 8 i) ∙ each i (omega (arith, less, fewer, count))
          ∙ bit_at-is_item 64 (omega arith) n blocks h i
      | inr past ↦
          bit_at-past (take m all) 8 i (omega (arith, past, few))
          ∙ sym (get_or_past bits i false
          (omega (arith, past, bytes, count, length-unpacking n blocks 64)))
    ]) in
    sym (packing-unpacking 8 (omega arith) n (take m all) stores.canonical)
    ∙ ap (λ bs. packing bs 8) stores.bits
  where
    small_taken : All (λ x. x < 2 ^ 8) (take m all)
    small_taken = All-from_get_or (λ x. x < 2 ^ 8) (take m all) 0 (λ i inside.
        omega (arith, small i, get_or-take m all i 0 (omega (arith, inside, length-take m all))))
