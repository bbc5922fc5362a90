-- The bytes of words, eight for each.
use Rattle.std.specs.Int.{w64, from_le_bytes, bytes_low_first, div_ceil}
use Rattle.std.proofs.lemmas.Grind.{div_ceil_times}
use Rattle.std.proofs.Common.{◌≡◌, ℕ, zero, suc, ◌+◌, ◌-◌, ◌*◌, ◌/◌, ◌%◌, ◌^◌, ◌<◌, ◌≤◌, false}
use Rattle.std.proofs.Common.{List, ◌++◌, length, get_or, take, replicate, sym, ap, ◌∙◌, arith, inl}
use Rattle.std.proofs.Common.{inr, mod-lt}
use Rattle.std.proofs.lemmas.Bool.{cases_lt}
use Rattle.std.proofs.lemmas.List.{ext_get_or, get_or_past, get_or_append_left, get_or-append_right}
use Rattle.std.proofs.lemmas.List.{get_or-take, get_or-replicate, length-append, length-replicate}
use Rattle.std.proofs.lemmas.List.{length-take-le}
use Rattle.vob_block.specs.Places.{place, HasPlaces}
use Rattle.vob_block.specs.Packing.{item, need, bit_at, unpacking, IsCanonical}
use Rattle.vob_block.specs.Bytes.{bytes_list}
use Rattle.vob_block.proofs.ByteLemmas.{item-bytes_list, length-bytes_list, bytes_list-take}
use Rattle.vob_block.proofs.NeedLemmas.{need_is, need_enough, need_least}
use Rattle.vob_block.proofs.PackingLemmas.{bit_at-in_block, length-unpacking}
use Rattle.vob_store.proofs.BuildLemmas.{item-low, item-high}
use Rattle.vob_store.proofs.ReverseLemmas.{reversed_bits}

-- the bytes of a number are bytes
pub bytes_small : (k i n j : ℕ) → get_or (bytes_low_first i k n) j 0 < 256
bytes_small zero i n j =
    let none : get_or (bytes_low_first i zero n) j 0 ≡ 0 =
    get_or_past (bytes_low_first i zero n) j 0 (omega arith) in omega (arith, none)
bytes_small (suc k) zero n zero = mod-lt n (omega arith)
bytes_small (suc k) (suc i) n zero = mod-lt (n / 256 ^ suc i) (omega arith)
bytes_small (suc k) i n (suc j) = bytes_small k (suc i) n j

-- each byte reversed twice is as it was
reversed_back : (x y : ℕ) → HasPlaces 64 y (λ j. place (j / 8 * 8 + (7 - j % 8)) x)
    → HasPlaces 64 x (λ j. place (j / 8 * 8 + (7 - j % 8)) y)
reversed_back x y h = record {
  each = λ j below.
      let i = j / 8 * 8 + (7 - j % 8) in
      let low : i % 8 ≡ 7 - j % 8 = omega arith in
      let high : i / 8 ≡ j / 8 = omega arith in
      let back : i / 8 * 8 + (7 - i % 8) ≡ j = omega (arith, low, high) in
      ap (λ k. place k x) (sym back) ∙ sym (h.each i (omega arith));
}

-- the bytes of a word with each byte reversed have its places for bits
pub places-reversed : (x y : ℕ) (bs : List ℕ) → ((i : ℕ) → get_or bs i 0 < 256)
    → from_le_bytes w64 bs ≡ y → HasPlaces 64 y (λ j. place (j / 8 * 8 + (7 - j % 8)) x)
    → HasPlaces 64 x (item (bytes_list bs))
places-reversed x y bs small is h = reversed_bits bs small x (rw is (reversed_back x y h))

-- eight bytes behind others
pub bits-eight : (blocks old bs : List ℕ) (k x : ℕ) → length old ≡ 8 * k → length bs ≡ 8
    → x ≡ get_or blocks k 0 → HasPlaces 64 x (item (bytes_list bs))
    → ((i : ℕ) → i < 64 * k → item (bytes_list old) i ≡ bit_at blocks 64 i)
    → (i : ℕ) → i < 64 * (k + 1) → item (bytes_list (old ++ bs)) i ≡ bit_at blocks 64 i
bits-eight blocks old bs k x long eight is places h i below = elim (cases_lt i (64 * k)) [
  | inl low ↦
      item-bytes_list (old ++ bs) i
      ∙ ap (place (7 - i % 8)) (get_or_append_left old bs 0 (i / 8) (omega (arith, long, low)))
      ∙ sym (item-bytes_list old i) ∙ h i low
  | inr high ↦
      let j = i - 64 * k in
      let unit : j % 8 ≡ i % 8 = omega (arith, high) in
      let byte : j / 8 ≡ i / 8 - 8 * k = omega (arith, high) in
      let whole : k * 64 + j ≡ i = omega (arith, high) in
      item-bytes_list (old ++ bs) i
      ∙ ap (place (7 - i % 8)) (get_or-append_right old bs (8 * k) (i / 8) 0 long
      (omega (arith, high)))
      ∙ ap (λ q. place (7 - i % 8) (get_or bs q 0)) (sym byte)
      ∙ ap (λ r. place (7 - r) (get_or bs (j / 8) 0)) (sym unit)
      ∙ sym (item-bytes_list bs j) ∙ sym (places.each j (omega (arith, below)))
      ∙ ap (place j) is ∙ sym (bit_at-in_block blocks 64 k j (omega (arith, below)))
      ∙ ap (bit_at blocks 64) whole
]

-- the first of the bytes of some blocks, as many as their bits need
module _ (n m : ℕ) (blocks all : List ℕ) (h : IsCanonical n blocks 64) (count : m ≡ need n 8)
    (long : length all ≡ 8 * length blocks)
    (each : (i : ℕ) → i < 64 * length blocks → item (bytes_list all) i ≡ bit_at blocks 64 i) where
  enough : (n ≤ 8 * m) × (m ≤ 8 * length blocks)
  enough =
      let bytes = need_enough 8 (omega arith) n in
      let words = need_enough 64 (omega arith) n in
      let fewer = need_least 8 (omega arith) n (8 * length blocks)
      (omega (arith, words, h.count)) in
      (omega (arith, bytes, count), omega (arith, fewer, count))

  pub length-needed : length (take m all) ≡ m
  length-needed = length-take-le m all (omega (arith, enough.1, long))

  pub bytes_list-needed : bytes_list (take m all)
      ≡ unpacking n blocks 64 ++ replicate (8 * m - n) false
  bytes_list-needed =
      let bits = unpacking n blocks 64 in
      let rest = replicate (8 * m - n) false in
      let whole : length (bytes_list (take m all)) ≡ 8 * m = length-bytes_list (take m all)
      ∙ ap (λ k. 8 * k) length-needed in
      let both : length (bits ++ rest) ≡ 8 * m = omega (
        arith,
        length-append bits rest,
        length-unpacking n blocks 64,
        length-replicate (8 * m - n) false,
        enough.0,
      ) in
      ext_get_or false (bytes_list (take m all)) (bits ++ rest) (whole ∙ sym both) (λ i inside.
      let below : i < 8 * m = omega (arith, inside, whole) in
      ap (λ bs. item bs i) (bytes_list-take m all)
      ∙ get_or-take (8 * m) (bytes_list all) i false below
      ∙ each i (omega (arith, below, enough.1))
      ∙ elim (cases_lt i n) [
        | inl less ↦ sym (item-low 64 (omega arith) n blocks rest i less)
        | inr past ↦
            h.unused i past
            ∙ sym (item-high 64 (omega arith) n blocks rest i past
            ∙ get_or-replicate (8 * m - n) (i - n) false false (omega (arith, below, past)))
      ])

-- what the code computes for the bytes that bits need
pub need_of_bytes : (n m : ℕ) → m ≡ div_ceil n 8 → m ≡ need n 8
need_of_bytes n m is =
    let times = div_ceil_times n 8 (omega arith) in
    sym (need_is 8 (omega arith) n m (omega (arith, times.0, is)) (omega (arith, times.1, is)))
