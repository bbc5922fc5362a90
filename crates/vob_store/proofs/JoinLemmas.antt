-- The bits of some blocks joined behind those of others, at a plain width.
use Rattle.std.specs.Prelude.{All}
use Rattle.std.proofs.Common.{◌≡◌, ◌≢◌, ℕ, ◌+◌, ◌-◌, ◌*◌, ◌/◌, ◌%◌, ◌^◌, ◌<◌, ◌≤◌, ◌&&◌, List, map}
use Rattle.std.proofs.Common.{append-nil, ◌∷◌, ◌++◌, length, get_or, drop, take, ltb, leb, sym, ap}
use Rattle.std.proofs.Common.{◌∙◌, arith, inl, inr, mod-lt, div-add-mod', one-mul, zero-mul}
use Rattle.std.proofs.Common.{zero-add, add-mul}
use Rattle.std.proofs.lemmas.Bool.{cases_lt, lt-ltb, le-ltb, le-leb, cond-true, cond-false}
use Rattle.std.proofs.lemmas.List.{length-map, length-drop, length-append, length-take-le, take_rest, drop_all, take-map, drop-map, map-append}
use borrow.Rule.Slice.PartMut.{put_mid}
use Rattle.vob_block.specs.Places.{place, HasPlaces}
use Rattle.vob_block.specs.Packing.{need, bit_at, unpacking}
use Rattle.vob_block.proofs.NeedLemmas.{need-le-need, need_least, need_enough, lt-need}
use Rattle.vob_block.proofs.PackingLemmas.{bit_at-in_block, bit_at-is_item, length-unpacking}
use Rattle.vob_store.specs.Building.{AreBuilt, joined_bit}
use Rattle.vob_store.specs.Joining.{HaveRoom, IsJoined}
use Rattle.vob_store.proofs.BuildLemmas.{AreBuilt-same, AreBuilt-upto, bit_at-drop, Stores-built, joined-is_item, AreBuilt-behind}
use Rattle.vob_store.proofs.RoomLemmas.{need-add}

-- the bits of others as they are stand behind none
pub joined-none : (w : ℕ) (olds others : List ℕ) (i : ℕ) → joined_bit w 0 olds others i
    ≡ bit_at others w i
joined-none w olds others i = cond-false (ltb i 0) (bit_at olds w i) (bit_at others w (i - 0))
    (le-ltb i 0 (omega arith)) ∙ ap (bit_at others w) (omega arith)

-- a block moved up, and others behind it, have from place `from` on its first bits and theirs
pub shifted-is_joined : (w used from first : ℕ) (olds others : List ℕ) → 0 < w → from + used ≡ w
    → 0 < from → HasPlaces w first (λ j. leb from j && place (j - from) (get_or olds 0 0))
    → (i : ℕ) → bit_at (first ∷ others) w (from + i) ≡ joined_bit w used olds others i
shifted-is_joined w used from first olds others wide rest some places i = elim (cases_lt i used) [
  | inl low ↦
      ap (bit_at (first ∷ others) w) (omega (arith, zero-mul w))
      ∙ bit_at-in_block (first ∷ others) w 0 (from + i) (omega arith)
      ∙ places.each (from + i) (omega arith)
      ∙ ap (λ b. b && place (from + i - from) (get_or olds 0 0))
      (le-leb from (from + i) (omega arith))
      ∙ ap (λ j. place j (get_or olds 0 0)) (omega arith)
      ∙ sym (bit_at-in_block olds w 0 i (omega arith))
      ∙ ap (bit_at olds w) (omega (arith, zero-mul w))
      ∙ sym (cond-true (ltb i used) (bit_at olds w i) (bit_at others w (i - used))
      (lt-ltb i used low))
  | inr high ↦
      ap (bit_at (first ∷ others) w) (omega (arith, one-mul w))
      ∙ sym (bit_at-drop w wide 1 (first ∷ others) (i - used))
      ∙ sym (cond-false (ltb i used) (bit_at olds w i) (bit_at others w (i - used))
      (le-ltb i used high))
]

-- items with room for n bits and for those of others; u is the width as the code read it
module _ {X : Type 0} (number : X → ℕ) (w : ℕ) (wide : 0 < w) (n m : ℕ) (items others : List X)
    (room : HaveRoom w n m (map number items) (map number others)) (u : ℕ) (same : u ≡ w) where
  -- those from that of bit n on
  abbrev pub tail : List X
  tail = take (length items - n / u) (drop (n / u) items)

  in_range : (n / u ≤ length items) × (length tail ≡ need (n % w + m) w)
  in_range =
      let whole : n / w * w + (n % w + m) ≡ n + m = omega (arith, div-add-mod' n w) in
      let sum : need (n + m) w ≡ n / u + need (n % w + m) w =
      ap (λ k. need k w) (sym whole) ∙ need-add w wide (n / w) (n % w + m)
      ∙ ap (λ v. n / v + need (n % w + m) w) (sym same) in
      let long : length tail ≡ length items - n / u =
      ap length (take_rest items (n / u)) ∙ length-drop (n / u) items in
      let count = room.count in (
        omega (arith, sum, count, length-map items number),
        omega (arith, sum, long, count, length-map items number),
      )

  pub start-le : n / u ≤ length items
  start-le = in_range.0

  -- they are as many as the others, or one more where the bits before end within a block
  pub tail_fits : (n % u ≡ 0 → length tail ≡ length others) × (n % u ≢ 0 → 0 < length tail)
      × (length others ≤ length tail) × (length tail ≤ length others + 1)
  tail_fits =
      let theirs : length others ≡ need m w = sym (length-map others number) ∙ room.other.count in
      let least = need-le-need w wide m (n % w + m) (omega arith) in
      let next : need (n % w + m) w ≤ need m w + 1 = need_least w wide (n % w + m) (need m w + 1)
      (omega (arith, add-mul (need m w) 1 w, one-mul w, need_enough w wide m, mod-lt n wide)) in (
        (λ full. in_range.1 ∙ ap (λ k. need (k + m) w) (rw same at full)
            ∙ ap (λ k. need k w) (zero-add m) ∙ sym theirs),
        (λ partial.
            let some : n % w ≢ 0 = rw same at partial in
            omega (arith, in_range.1, lt-need w wide (n % w + m) 0 (omega arith))),
        omega (arith, in_range.1, theirs),
        omega (arith, in_range.1, theirs),
      )

  -- once the others are joined behind the first n % w bits of those, all hold the joined bits
  pub IsJoined-built : (ys : List X) → length ys ≡ length tail
      → All (λ x. x < 2 ^ w) (map number (put_mid (n / u) (length items - n / u) items ys))
      → AreBuilt w (length tail) (map number ys) (joined_bit w (n % u) (map number tail)
      (map number others))
      → IsJoined w n m (map number items) (map number others)
      (map number (put_mid (n / u) (length items - n / u) items ys))
  IsJoined-built ys long within built =
      let xs = map number items in
      let theirs = map number others in
      let bits = unpacking m theirs w in
      let after = take (n / w) xs ++ map number ys in
      let put : map number (put_mid (n / u) (length items - n / u) items ys) ≡ after =
      ap (λ zs. map number (take (n / u) items ++ (ys ++ zs)))
      (drop_all (length items - n / u) (drop (n / u) items)
      (omega (arith, length-drop (n / u) items)))
      ∙ ap (λ zs. map number (take (n / u) items ++ zs)) (append-nil ys)
      ∙ map-append number (take (n / u) items) ys
      ∙ ap (λ zs. zs ++ map number ys) (sym (take-map number (n / u) items)
      ∙ ap (λ v. take (n / v) xs) same) in
      let blocks : map number tail ≡ drop (n / w) xs = ap (map number) (take_rest items (n / u))
      ∙ sym (drop-map number (n / u) items) ∙ ap (λ v. drop (n / v) xs) same in
      let start : n / w ≤ length xs = omega
      (arith, rw same at in_range.0, length-map items number) in
      let count : length after ≡ need (n + m) w = omega (
        arith,
        length-append (take (n / w) xs) (map number ys),
        length-map ys number,
        length-take-le (n / w) xs start,
        length-drop (n / w) xs,
        ap length blocks,
        length-map tail number,
        long,
        room.count,
      ) in
      let all_built : AreBuilt w (length (map number ys)) (map number ys) (joined_bit w (n % u)
      (map number tail) theirs) =
      AreBuilt-upto _ built (omega (arith, long, length-map ys number)) in
      let whole = rw div-add-mod' at (AreBuilt-behind w wide (n / w) (n % w) xs (map number ys)
      theirs start (rw (blocks, same) at all_built)) in
      let all : length bits ≡ m = length-unpacking m theirs w in
      rw put (rw all at (Stores-built w wide n xs bits after
      (count ∙ ap (λ k. need (n + k) w) (sym all)) (rw put at within)
      (AreBuilt-same whole (joined-is_item w wide n xs theirs bits
      (bit_at-is_item w wide m theirs room.other)))))
