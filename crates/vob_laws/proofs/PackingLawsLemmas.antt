-- What is read of bits that a block was written over, and of the bytes of bits.
use Rattle.std.specs.Prelude.{replicate}
use Rattle.std.proofs.Common.{◌≡◌, ℕ, ◌+◌, ◌-◌, ◌*◌, ◌/◌, ◌%◌, ◌^◌, ◌<◌, ◌≤◌, Bool, false, ◌&&◌, List}
use Rattle.std.proofs.Common.{[], ◌∷◌, ◌++◌, length, take, drop, refl, sym, ap, ◌∙◌, arith, inl, inr}
use Rattle.std.proofs.Common.{lt_of_lt_of_le, mod-lt}
use Rattle.std.proofs.Math.Nat.{pow-le-pow_right}
use Rattle.std.proofs.lemmas.Bool.{cases_lt, le-leb}
use Rattle.std.proofs.lemmas.List.{ext_get_or, get_or-append_right, get_or-replicate, get_or_append_left}
use Rattle.std.proofs.lemmas.List.{get_or_past, length-append, length-replicate, length-take-le}
use Rattle.std.proofs.lemmas.Nat.{pow_pos}
use Rattle.vob_block.specs.Packing.{bit_at, item, packing, unpacking}
use Rattle.vob_block.specs.Places.{place, HasPlaces}
use Rattle.vob_block.proofs.NeedLemmas.{need_enough, need_least}
use Rattle.vob_block.proofs.PackingLemmas.{bit_at-in_block, bit_at-packing, get_or-unpacking}
use Rattle.vob_block.proofs.PackingLemmas.{length-packing, length-unpacking}
use Rattle.vob_block.proofs.PlaceLemmas.{place-shift, place_above, same_from_places}
use Rattle.vob.specs.Copy.{written_over}
use Rattle.vob_laws.specs.PackingLaws.{LoadGivesStored, LowBytesGiveBits}
use Rattle.vob_laws.proofs.MoveLawsLemmas.{drop-parts, take-parts}

-- ---- a block written and read again

written-there : (bits others : List Bool) (start n : ℕ) → length others ≡ n → start ≤ length bits
    → take n (drop start (written_over start others bits)) ≡ others
written-there bits others start n count inside =
    let rest = drop (start + length others) bits in
    ap (take n) (drop-parts (take start bits) (others ++ rest) start
    (length-take-le start bits inside)) ∙ take-parts others rest n count

-- the low places of a block are those of its remainder by a power of two
place-mod : (n x j : ℕ) → j < n → place j (x % 2 ^ n) ≡ place j x
place-mod n x j below =
    let same : x ≡ x * 2 ^ 0 = omega arith in
    let here : j - 0 ≡ j = omega arith in
    ap (λ y. place j (y % 2 ^ n)) same ∙ place-shift n x 0 j below
    ∙ ap (λ b. b && place (j - 0) x) (le-leb 0 j (omega arith)) ∙ ap (λ k. place k x) here

module _ (w n word loaded : ℕ) (few : n ≤ w) (small : loaded < 2 ^ w)
    (holds : HasPlaces w loaded (item (unpacking n (word ∷ []) w))) where
  low_bit : (j : ℕ) → j < w → place j loaded ≡ place j (word % 2 ^ n)
  low_bit j below = holds.each j below ∙ elim (cases_lt j n) [
    | inl less ↦
        let here : j ≡ 0 * w + j = omega arith in
        get_or-unpacking n (word ∷ []) w j false less ∙ ap (bit_at (word ∷ []) w) here
        ∙ bit_at-in_block (word ∷ []) w 0 j below ∙ sym (place-mod n word j less)
    | inr past ↦ get_or_past (unpacking n (word ∷ []) w) j false
        (omega (arith, past, length-unpacking n (word ∷ []) w))
        ∙ sym (place_above (word % 2 ^ n) n j (mod-lt word (pow_pos n)) past)
  ]

  low_bits : loaded ≡ word % 2 ^ n
  low_bits = same_from_places w loaded (word % 2 ^ n) small
      (lt_of_lt_of_le (mod-lt word (pow_pos n)) (pow-le-pow_right (omega arith) few)) low_bit

pub loaded-stored : LoadGivesStored
loaded-stored w bits start stop word loaded order inside few small holds =
    let n = stop - start in
    let stored = written-there bits (unpacking n (word ∷ []) w) start n
    (length-unpacking n (word ∷ []) w) (omega arith) in
    low_bits w n word loaded (omega arith) small (rw stored at holds)

-- ---- bytes of bits

pub bits-low_bytes : LowBytesGiveBits
bits-low_bytes bits =
    let bytes = packing bits 8 in
    let n = length bits in
    let all = 8 * length bytes in
    let count = length-packing 8 (omega arith) bits in
    let enough = need_enough 8 (omega arith) n in
    let rest = replicate (all - n) false in (
      ext_get_or false (unpacking all bytes 8) (bits ++ rest)
          (length-unpacking all bytes 8
          ∙ omega (arith, count, enough, length-append bits rest, length-replicate (all - n) false))
          (λ i less.
          let below : i < all = omega (arith, less, length-unpacking all bytes 8) in
          get_or-unpacking all bytes 8 i false below ∙ bit_at-packing 8 (omega arith) bits i
          ∙ elim (cases_lt i n) [
            | inl inside ↦ sym (get_or_append_left bits rest false i inside)
            | inr past ↦ get_or_past bits i false past
                ∙ sym (get_or-append_right bits rest n i false refl past
                ∙ get_or-replicate (all - n) (i - n) false false (omega arith))
          ]),
      omega (arith, count, enough, need_least 8 (omega arith) n ((n + 7) / 8) (omega arith)),
    )
