-- The digits of the bits that blocks hold.
use Rattle.std.proofs.Common.{◌≡◌, ℕ, ◌+◌, ◌-◌, ◌*◌, ◌<◌, ◌≤◌, Bool, true, false, List, [], ◌∷◌, ◌++◌, length, map, min, get_or, sym, ap, ◌∙◌, inl, inr, arith, length-append, lit<}
use Rattle.std.proofs.lemmas.Bool.{cases_lt}
use Rattle.std.proofs.lemmas.List.{ext_get_or, get_or-map, length-map, get_or_append_left, get_or-append_right}
use Rattle.std.proofs.lemmas.Str.Ascii.{IsAscii-cons, IsAscii-nil}
use Rattle.std.specs.Str.{IsAscii}
use Rattle.vob_block.specs.Digits.{digit}
use Rattle.vob_block.specs.Places.{place}
use Rattle.vob_block.specs.Packing.{bit_at, unpacking}
use Rattle.vob_block.proofs.PackingLemmas.{bit_at-in_block, length-unpacking, get_or-unpacking, unpacking_from_items}

-- bit i of one block is its place i
bit_at-of_one : (w x i : ℕ) → i < w → bit_at (x ∷ []) w i ≡ place i x
bit_at-of_one w x i h =
    ap (bit_at (x ∷ []) w) (omega arith) ∙ bit_at-in_block (x ∷ []) w 0 i h

-- bytes that are the digits of a block's places are those of the bits that it holds
pub digits_from_each : (w x n : ℕ) (xs : List ℕ) → n ≤ w → length xs ≡ n
    → ((i : ℕ) → i < n → get_or xs i 0 ≡ digit (place i x))
    → xs ≡ map digit (unpacking n (x ∷ []) w)
digits_from_each w x n xs fits len each =
    let bits = unpacking n (x ∷ []) w in
    let many = length-unpacking n (x ∷ []) w in
    ext_get_or 0 xs (map digit bits) (len ∙ sym (length-map bits digit ∙ many)) (λ i h.
    let below : i < n = omega (arith, h, len) in
    each i below
    ∙ sym (get_or-map digit bits i false 0 (omega (arith, below, many))
    ∙ ap digit (get_or-unpacking n (x ∷ []) w i false below ∙ bit_at-of_one w x i (omega arith))))

-- the bits that the next block holds follow those before it
pub unpacking-more : (w n k left count x : ℕ) (xs : List ℕ) → left ≡ n - k * w
    → count ≡ min left w → x ≡ get_or xs k 0
    → unpacking (n - left) xs w ++ unpacking count (x ∷ []) w ≡ unpacking (n - (left - count)) xs w
unpacking-more w n k left count x xs is_left is_count is_block =
    let first = unpacking (n - left) xs w in
    let next = unpacking count (x ∷ []) w in
    let len_first = length-unpacking (n - left) xs w in
    let len_next = length-unpacking count (x ∷ []) w in
    sym (unpacking_from_items (first ++ next) (n - (left - count)) xs w
    (omega (arith, length-append first next, len_first, len_next))
    (λ i h. elim (cases_lt i (n - left)) [
      | inl before ↦ sym (get_or_append_left first next false i (omega (arith, before, len_first))
          ∙ get_or-unpacking (n - left) xs w i false before)
      | inr past ↦
          let j : ℕ = i - (n - left) in
          let below : j < count = omega arith in
          let here : i ≡ k * w + j = omega arith in
          ap (bit_at xs w) here ∙ bit_at-in_block xs w k j (omega arith)
          ∙ ap (place j) (sym is_block)
          ∙ sym (get_or-append_right first next (n - left) i false len_first past
          ∙ get_or-unpacking count (x ∷ []) w j false below ∙ bit_at-of_one w x j (omega arith))
    ]))

-- and leave as many fewer
pub left-after : (w n k left count : ℕ) → left ≡ n - k * w → count ≡ min left w
    → left - count ≡ n - (k + 1) * w
left-after w n k left count is_left is_count = omega arith

-- digits are ASCII
pub IsAscii-digits : (bits : List Bool) → IsAscii (map digit bits)
IsAscii-digits [] = IsAscii-nil
IsAscii-digits (true ∷ bits) = IsAscii-cons _ _ (lit< tt) (IsAscii-digits bits)
IsAscii-digits (false ∷ bits) = IsAscii-cons _ _ (lit< tt) (IsAscii-digits bits)
