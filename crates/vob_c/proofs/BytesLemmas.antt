-- Bits of words as bits of bytes.
use Rattle.std.specs.Int.{reverse_bits, reverse_bits_onto, w8}
use Rattle.std.proofs.Common.{◌≡◌, ℕ, zero, suc, ◌+◌, ◌-◌, ◌*◌, ◌/◌, ◌%◌, ◌^◌, ◌<◌, Bool, true, false, if◌then◌else◌, List, [], ◌∷◌, length, set, get_or, replicate, eqb, min, sym, ap, ◌∙◌, arith, inl, inr, div-one, pow-suc, add-one, zero-add}
use native.Mathlib.Nat.{div-div-eq-div-mul}
use Rattle.std.proofs.lemmas.Bool.{cases_eq, cases_lt}
use Rattle.std.proofs.lemmas.List.{get_or_past, get_or-replicate, get_or-set_other, get_or-set_same, length-replicate}
use Rattle.std.proofs.lemmas.List.FromFn.{length-map-range_with_len, get_or-map-range_with_len}
use Rattle.vob_block.specs.Packing.{item, bit_at, need, unpacking, IsCanonical}
use Rattle.vob_block.specs.Places.{place, HasPlaces}
use Rattle.vob_block.proofs.NeedLemmas.{need_enough, need_least}
use Rattle.vob_block.proofs.PackingLemmas.{bit_at-in_block, bit_at-is_item, length-unpacking, unpacking_from_items}
use Rattle.vob_block.proofs.PlaceLemmas.{place-zero}
use Rattle.vob_store.specs.Copying.{AreCopied}
use Rattle.vob_c.specs.Bytes.{bits_of_bytes, byte_bit}

-- ---- a byte turned around

place-half : (j x : ℕ) → place j (x / 2) ≡ place (j + 1) x
place-half j x =
    let power : 2 * 2 ^ j ≡ 2 ^ (j + 1) = omega (arith, pow-suc 2 j, ap (λ n. 2 ^ n) (add-one j)) in
    ap (λ q. eqb (q % 2) 1) (div-div-eq-div-mul x 2 (2 ^ j) ∙ ap (λ p. x / p) power)

place-twice : (j a x : ℕ) → place (j + 1) (a * 2 + x % 2) ≡ place j a
place-twice j a x =
    let half : (a * 2 + x % 2) / 2 ≡ a = omega arith in
    sym (place-half j (a * 2 + x % 2)) ∙ ap (place j) half

place-first : (a x : ℕ) → place 0 (a * 2 + x % 2) ≡ place 0 x
place-first a x =
    let same : (a * 2 + x % 2) % 2 ≡ x % 2 = omega arith in
    ap (λ y. eqb (y % 2) 1) (div-one (a * 2 + x % 2)) ∙ ap (λ r. eqb r 1) same
    ∙ sym (ap (λ y. eqb (y % 2) 1) (div-one x))

onto_high : (k n a j : ℕ) → place (k + j) (reverse_bits_onto k n a) ≡ place j a
unfolding reverse_bits_onto
onto_high zero n a j = ap (λ i. place i a) (omega arith)
onto_high (suc k) n a j =
    let next : suc k + j ≡ k + (j + 1) = omega arith in
    ap (λ i. place i (reverse_bits_onto k (n / 2) (a * 2 + n % 2))) next
    ∙ onto_high k (n / 2) (a * 2 + n % 2) (j + 1) ∙ place-twice j a n

onto_low : (k n a j : ℕ) → j < k → place j (reverse_bits_onto k n a) ≡ place (k - 1 - j) n
unfolding reverse_bits_onto
onto_low zero n a j less = absurd (omega arith)
onto_low (suc k) n a j less = elim (cases_lt j k) [
  | inl lower ↦
      let next : k - 1 - j + 1 ≡ suc k - 1 - j = omega (arith, lower) in
      onto_low k (n / 2) (a * 2 + n % 2) j lower ∙ place-half (k - 1 - j) n
      ∙ ap (λ i. place i n) next
  | inr past ↦
      let at : j ≡ k + 0 = omega (arith, past, less) in
      let none : 0 ≡ suc k - 1 - j = omega (arith, past, less) in
      ap (λ i. place i (reverse_bits_onto k (n / 2) (a * 2 + n % 2))) at
      ∙ onto_high k (n / 2) (a * 2 + n % 2) 0 ∙ place-first a n ∙ ap (λ i. place i n) none
]

pub turned_place : (byte j : ℕ) → j < 8 → place j (reverse_bits w8 byte) ≡ place (7 - j) byte
turned_place byte j less = onto_low 8 byte 0 j less

-- ---- a byte of a word

pub byte_place : (words eight : List ℕ) (k x : ℕ) → x ≡ get_or words (k / 8) 0
    → HasPlaces 64 x (bit_at eight 8) → (j : ℕ) → j < 8
    → place j (get_or eight (k % 8) 0) ≡ bit_at words 64 (8 * k + j)
byte_place words eight k x is places j less =
    let at : k / 8 * 64 + (k % 8 * 8 + j) ≡ 8 * k + j = omega arith in
    sym (bit_at-in_block eight 8 (k % 8) j less)
    ∙ sym (places.each (k % 8 * 8 + j) (omega (arith, less)))
    ∙ ap (place (k % 8 * 8 + j)) is
    ∙ sym (bit_at-in_block words 64 (k / 8) (k % 8 * 8 + j) (omega (arith, less)))
    ∙ ap (bit_at words 64) at

-- ---- the bytes so far

turned_back : (most : Bool) (byte turned : ℕ)
    → ((j : ℕ) → j < 8 → place j turned ≡ place (if most then 7 - j else j) byte)
    → (j : ℕ) → j < 8 → place (if most then 7 - j else j) turned ≡ place j byte
turned_back true byte turned h j less =
    let twice : 7 - (7 - j) ≡ j = omega (arith, less) in
    h (7 - j) (omega arith) ∙ ap (λ i. place i byte) twice
turned_back false byte turned h j less = h j less

pub stored_more : (most : Bool) (words bytes : List ℕ) (k byte turned : ℕ)
    → ((j : ℕ) → j < 8 → place j byte ≡ bit_at words 64 (8 * k + j))
    → ((j : ℕ) → j < 8 → place j turned ≡ place (if most then 7 - j else j) byte)
    → k < length bytes → ((i : ℕ) → i < 8 * k → byte_bit most bytes i ≡ bit_at words 64 i)
    → (i : ℕ) → i < 8 * (k + 1) → byte_bit most (set bytes k turned) i ≡ bit_at words 64 i
stored_more most words bytes k byte turned low h inside each i less = elim (cases_lt i (8 * k)) [
  | inl before ↦
      let other = get_or-set_other bytes k (i / 8) turned 0 (omega (arith, before)) in
      ap (place (if most then 7 - i % 8 else i % 8)) other ∙ each i before
  | inr past ↦
      let there : i / 8 ≡ k = omega (arith, past, less) in
      let at : 8 * k + i % 8 ≡ i = omega (arith, past, less) in
      ap (place (if most then 7 - i % 8 else i % 8))
      (ap (λ q. get_or (set bytes k turned) q 0) there ∙ get_or-set_same bytes k turned 0 inside)
      ∙ turned_back most byte turned h (i % 8) (omega arith) ∙ low (i % 8) (omega arith)
      ∙ ap (bit_at words 64) at
]

pub stored_all : (most : Bool) (n : ℕ) (words bytes : List ℕ) → IsCanonical n words 64
    → length bytes ≡ need n 8
    → ((i : ℕ) → i < 8 * length bytes → byte_bit most bytes i ≡ bit_at words 64 i)
    → (i : ℕ) → byte_bit most bytes i ≡ item (unpacking n words 64) i
stored_all most n words bytes g count each i = elim (cases_lt i (8 * length bytes)) [
  | inl less ↦ each i less ∙ bit_at-is_item 64 (omega arith) n words g i
  | inr past ↦ ap (place (if most then 7 - i % 8 else i % 8))
      (get_or_past bytes (i / 8) 0 (omega (arith, past)))
      ∙ place-zero (if most then 7 - i % 8 else i % 8)
      ∙ sym (get_or_past (unpacking n words 64) i false
      (omega (arith, past, count, need_enough 8 (omega arith) n, length-unpacking n words 64)))
]

pub bytes_inside : (n k : ℕ) (words : List ℕ) → length words ≡ need n 64 → k < need n 8
    → k < 8 * length words
bytes_inside n k words count less = omega (
  arith,
  less,
  need_least 8 (omega arith) n (8 * length words)
      (omega (arith, count, need_enough 64 (omega arith) n)),
)

-- ---- eight bytes of a word

pub eight_places : (most : Bool) (bytes eight : List ℕ) (at x : ℕ) → HasPlaces 64 x (bit_at eight 8)
    → ((j : ℕ) → j < 8 → (p : ℕ) → p < 8 → place p (get_or eight j 0)
    ≡ place (if most then 7 - p else p) (get_or bytes (at + j) 0))
    → (i : ℕ) → i < 64 → place i x ≡ byte_bit most bytes (8 * at + i)
eight_places most bytes eight at x places each i less =
    let back : i / 8 * 8 + i % 8 ≡ i = omega arith in
    let there : at + i / 8 ≡ (8 * at + i) / 8 = omega arith in
    let unit : i % 8 ≡ (8 * at + i) % 8 = omega arith in
    places.each i less ∙ ap (bit_at eight 8) (sym back)
    ∙ bit_at-in_block eight 8 (i / 8) (i % 8) (omega arith)
    ∙ each (i / 8) (omega (arith, less)) (i % 8) (omega arith)
    ∙ ap (λ m. place (if most then 7 - m else m) (get_or bytes (at + i / 8) 0)) unit
    ∙ ap (λ q. place (if most then 7 - (8 * at + i) % 8 else (8 * at + i) % 8) (get_or bytes q 0)) there

-- bytes are below 256
pub zeros_small : (k : ℕ) → get_or (replicate 8 0) k 0 < 256
zeros_small k = elim (cases_lt k 8) [
  | inl less ↦ omega (arith, get_or-replicate {A = ℕ} 8 k 0 0 less)
  | inr past ↦ omega (
    arith,
    get_or_past {X = ℕ} (replicate 8 0) k 0 (omega (arith, past, length-replicate {A = ℕ} 8 0)),
  )
]

pub small_set : (eight : List ℕ) (k x : ℕ) → k < length eight → x < 256
    → ((j : ℕ) → get_or eight j 0 < 256) → (j : ℕ) → get_or (set eight k x) j 0 < 256
small_set eight k x inside small each j = elim (cases_eq j k) [
  | inl here ↦ omega (
    arith,
    small,
    ap (λ q. get_or (set eight k x) q 0) here,
    get_or-set_same eight k x 0 inside,
  )
  | inr other ↦ omega (arith, each j, get_or-set_other eight k j x 0 other)
]

pub eight_more : (most : Bool) (bytes eight : List ℕ) (at k turned : ℕ) → k < length eight
    → ((p : ℕ) → p < 8 → place p turned ≡ place (if most then 7 - p else p) (get_or bytes (at + k) 0))
    → ((j : ℕ) → j < k → (p : ℕ) → p < 8 → place p (get_or eight j 0)
    ≡ place (if most then 7 - p else p) (get_or bytes (at + j) 0))
    → (j : ℕ) → j < k + 1 → (p : ℕ) → p < 8 → place p (get_or (set eight k turned) j 0)
    ≡ place (if most then 7 - p else p) (get_or bytes (at + j) 0)
eight_more most bytes eight at k turned inside new each j less p few = elim (cases_eq j k) [
  | inl here ↦
      ap (place p) (ap (λ q. get_or (set eight k turned) q 0) here
      ∙ get_or-set_same eight k turned 0 inside) ∙ new p few
      ∙ ap (λ q. place (if most then 7 - p else p) (get_or bytes (at + q) 0)) (sym here)
  | inr other ↦ ap (place p) (get_or-set_other eight k j turned 0 other)
      ∙ each j (omega (arith, less, other)) p few
]

pub words_more : (most : Bool) (bytes words : List ℕ) (k x : ℕ) → k < length words
    → ((i : ℕ) → i < 64 → place i x ≡ byte_bit most bytes (8 * (8 * k) + i))
    → ((i : ℕ) → i < 64 * k → bit_at words 64 i ≡ byte_bit most bytes i)
    → (i : ℕ) → i < 64 * (k + 1) → bit_at (set words k x) 64 i ≡ byte_bit most bytes i
words_more most bytes words k x inside new each i less =
    let back : i / 64 * 64 + i % 64 ≡ i = omega arith in
    let after = bit_at-in_block (set words k x) 64 (i / 64) (i % 64) (omega arith) in
    elim (cases_lt i (64 * k)) [
      | inl before ↦ ap (bit_at (set words k x) 64) (sym back) ∙ after
          ∙ ap (place (i % 64)) (get_or-set_other words k (i / 64) x 0 (omega (arith, before)))
          ∙ sym (bit_at-in_block words 64 (i / 64) (i % 64) (omega arith))
          ∙ ap (bit_at words 64) back ∙ each i before
      | inr past ↦
          let there : i / 64 ≡ k = omega (arith, past, less) in
          let at : 8 * (8 * k) + i % 64 ≡ i = omega (arith, past, less) in
          ap (bit_at (set words k x) 64) (sym back) ∙ after
          ∙ ap (place (i % 64)) (ap (λ q. get_or (set words k x) q 0) there
          ∙ get_or-set_same words k x 0 inside)
          ∙ new (i % 64) (omega arith) ∙ ap (byte_bit most bytes) at
    ]

-- ---- the words so far

pub loaded_more : (most : Bool) (n : ℕ) (words bytes after : List ℕ) (k turned : ℕ)
    → ((j : ℕ) → j < 8 → place j turned ≡ place (if most then 7 - j else j) (get_or bytes k 0))
    → AreCopied 64 (8 * k) 0 (min (n - 8 * k) 8) words (turned ∷ []) after
    → ((i : ℕ) → i < 8 * k → i < n → bit_at words 64 i ≡ byte_bit most bytes i)
    → (i : ℕ) → i < 8 * (k + 1) → i < n → bit_at after 64 i ≡ byte_bit most bytes i
loaded_more most n words bytes after k turned h copied each i less inside =
    elim (cases_lt i (8 * k)) [
      | inl before ↦ copied.before i before ∙ each i before inside
      | inr past ↦
          let j = i - 8 * k in
          let at : 8 * k + j ≡ i = omega (arith, past) in
          let unit : j ≡ i % 8 = omega (arith, past, less) in
          let there : k ≡ i / 8 = omega (arith, past, less) in
          let first : 0 + j ≡ 0 * 64 + j = omega arith in
          ap (bit_at after 64) (sym at) ∙ copied.copied j (omega (arith, past, less, inside))
          ∙ ap (bit_at (turned ∷ []) 64) first
          ∙ bit_at-in_block (turned ∷ []) 64 0 j (omega (arith, past, less))
          ∙ h j (omega (arith, past, less))
          ∙ ap (λ m. place (if most then 7 - m else m) (get_or bytes k 0)) unit
          ∙ ap (λ q. place (if most then 7 - i % 8 else i % 8) (get_or bytes q 0)) there
    ]

pub loaded_all : (most : Bool) (n : ℕ) (words bytes : List ℕ) → length bytes ≡ need n 8
    → ((i : ℕ) → i < 8 * length bytes → i < n → bit_at words 64 i ≡ byte_bit most bytes i)
    → unpacking n words 64 ≡ bits_of_bytes most n bytes
loaded_all most n words bytes count each = unpacking_from_items (bits_of_bytes most n bytes) n words 64
    (length-map-range_with_len (byte_bit most bytes) 0 n) (λ i less.
    each i (omega (arith, less, count, need_enough 8 (omega arith) n)) less
    ∙ sym (get_or-map-range_with_len (byte_bit most bytes) 0 n i i false less (zero-add i)))
