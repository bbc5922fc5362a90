-- The bits of bytes, eight for each.
use Rattle.std.specs.List.{range_with_len}
use Rattle.std.proofs.Common.{◌≡◌, ℕ, zero, suc, ◌+◌, ◌-◌, ◌*◌, ◌/◌, ◌%◌, ◌<◌, false, List, [], ◌∷◌}
use Rattle.std.proofs.Common.{◌++◌, length, map, get_or, take, drop, refl, sym, ap, ◌∙◌, arith}
use Rattle.std.proofs.Common.{mod-lt, div-add-mod', length-append}
use Rattle.std.proofs.lemmas.List.{ext_get_or, get_or_past, get_or_append_left, get_or-append_right, get_or-take, get_or-drop, length-take, length-drop}
use Rattle.std.proofs.lemmas.List.FromFn.{length-map-range_with_len, get_or-map-range_with_len}
use Rattle.vob_block.specs.Places.{place}
use Rattle.vob_block.specs.Packing.{item}
use Rattle.vob_block.specs.Bytes.{bytes_list}
use Rattle.vob_block.proofs.PlaceLemmas.{place-zero}

bytes_list-cons : (b : ℕ) (bs : List ℕ) → bytes_list (b ∷ bs)
    ≡ map (λ j. place (7 - j) b) (range_with_len 0 8) ++ bytes_list bs
unfolding bytes_list
bytes_list-cons b bs = refl

pub bytes_list-nil : bytes_list [] ≡ []
unfolding bytes_list
bytes_list-nil = refl

pub length-bytes_list : (bs : List ℕ) → length (bytes_list bs) ≡ 8 * length bs
length-bytes_list [] = ap length bytes_list-nil
length-bytes_list (b ∷ bs) = ap length (bytes_list-cons b bs)
    ∙ length-append (map (λ j. place (7 - j) b) (range_with_len 0 8)) (bytes_list bs)
    ∙ omega (arith, length-bytes_list bs, length-map-range_with_len (λ j. place (7 - j) b) 0 8)

-- bit j of byte k
item-byte : (bs : List ℕ) (k j : ℕ) → j < 8 → item (bytes_list bs) (k * 8 + j)
    ≡ place (7 - j) (get_or bs k 0)
item-byte [] k j h = ap (λ xs. get_or xs (k * 8 + j) false) bytes_list-nil
    ∙ get_or_past [] (k * 8 + j) false (omega arith)
    ∙ sym (ap (place (7 - j)) (get_or_past [] k 0 (omega arith)) ∙ place-zero (7 - j))
item-byte (b ∷ bs) zero j h =
    let len = length-map-range_with_len (λ i. place (7 - i) b) 0 8 in
    ap (λ xs. get_or xs (0 * 8 + j) false) (bytes_list-cons b bs)
    ∙ ap (λ i. get_or (map (λ i. place (7 - i) b) (range_with_len 0 8) ++ bytes_list bs) i
    false) (omega arith)
    ∙ get_or_append_left (map (λ i. place (7 - i) b) (range_with_len 0 8)) (bytes_list bs) false j
    (omega (arith, len))
    ∙ get_or-map-range_with_len (λ i. place (7 - i) b) 0 8 j j false h (omega arith)
item-byte (b ∷ bs) (suc k) j h =
    let len = length-map-range_with_len (λ i. place (7 - i) b) 0 8 in
    ap (λ xs. get_or xs (suc k * 8 + j) false) (bytes_list-cons b bs)
    ∙ get_or-append_right (map (λ i. place (7 - i) b) (range_with_len 0 8)) (bytes_list bs) 8
    (suc k * 8 + j) false len (omega arith)
    ∙ ap (λ i. get_or (bytes_list bs) i false) (omega arith) ∙ item-byte bs k j h

pub item-bytes_list : (bs : List ℕ) (i : ℕ) → item (bytes_list bs) i
    ≡ place (7 - i % 8) (get_or bs (i / 8) 0)
item-bytes_list bs i = ap (item (bytes_list bs)) (sym (div-add-mod' i 8))
    ∙ item-byte bs (i / 8) (i % 8) (mod-lt i (omega arith))

-- pieces of bytes are pieces of their bits
pub bytes_list-take : (n : ℕ) (bs : List ℕ) → bytes_list (take n bs) ≡ take (8 * n) (bytes_list bs)
bytes_list-take n bs = ext_get_or false (bytes_list (take n bs)) (take (8 * n) (bytes_list bs))
    (omega (
      arith,
      length-bytes_list (take n bs),
      length-take n bs,
      length-take (8 * n) (bytes_list bs),
      length-bytes_list bs,
    ))
    (λ i h.
    let inside : i < 8 * n = omega (arith, length-bytes_list (take n bs), length-take n bs) in
    item-bytes_list (take n bs) i ∙ ap (place (7 - i % 8))
    (get_or-take n bs (i / 8) 0 (omega (arith, div-add-mod' i 8)))
    ∙ sym (get_or-take (8 * n) (bytes_list bs) i false inside ∙ item-bytes_list bs i))

pub bytes_list-drop : (n : ℕ) (bs : List ℕ) → bytes_list (drop n bs) ≡ drop (8 * n) (bytes_list bs)
bytes_list-drop n bs = ext_get_or false (bytes_list (drop n bs)) (drop (8 * n) (bytes_list bs))
    (omega (
      arith,
      length-bytes_list (drop n bs),
      length-drop n bs,
      length-drop (8 * n) (bytes_list bs),
      length-bytes_list bs,
    ))
    (λ i h.
    let low : (8 * n + i) % 8 ≡ i % 8 = omega arith in
    let high : (8 * n + i) / 8 ≡ n + i / 8 = omega arith in
    item-bytes_list (drop n bs) i ∙ ap (place (7 - i % 8)) (get_or-drop n bs (i / 8) 0)
    ∙ sym (get_or-drop (8 * n) (bytes_list bs) i false ∙ item-bytes_list bs (8 * n + i)
    ∙ ap (λ r. place (7 - r) (get_or bs ((8 * n + i) / 8) 0)) low
    ∙ ap (λ q. place (7 - i % 8) (get_or bs q 0)) high))
