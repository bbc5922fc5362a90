-- What lists of bits are after moves that undo each other.
use Rattle.std.specs.Prelude.{replicate}
use Rattle.std.proofs.Common.{◌≡◌, ℕ, ◌+◌, ◌-◌, ◌%◌, ◌<◌, ◌≤◌, min, Bool, true, false, not, List}
use Rattle.std.proofs.Common.{[], ◌∷◌, ◌++◌, length, take, drop, refl, sym, ap, ◌∙◌, arith, inl, inr, mod-lt}
use Rattle.std.proofs.Math.Nat.{mod-add-mod, mul-mod_left}
use Rattle.std.proofs.Math.Seq.{drop-append_seam, drop-append-add, take-append_seam, take-append-add}
use Rattle.std.proofs.lemmas.Bool.{cases_eq, cases_lt}
use Rattle.std.proofs.lemmas.List.{append-nil, drop_all, ext_get_or, get_or-append-add, get_or-drop}
use Rattle.std.proofs.lemmas.List.{get_or-set_other, get_or-set_same, get_or-append_right, length-append}
use Rattle.std.proofs.lemmas.List.{length-drop, length-replicate, length-set, length-take-le}
use Rattle.std.proofs.lemmas.List.{take-append-drop, take-append-le, take-replicate, take_all}
use Rattle.vob_block.specs.Packing.{item}
use Rattle.vob_store.proofs.WriteLemmas.{not-not}
use Rattle.vob.specs.Moves.{rotated, rotated_back}
use Rattle.vob_laws.specs.MoveLaws.{flipped, inserted, moved_down, moved_up, DownAfterUp, FlipTwice}
use Rattle.vob_laws.specs.MoveLaws.{InsertUndoesRemove, RemoveUndoesInsert, RotateBack, RotateByLengths}
use Rattle.vob_laws.specs.MoveLaws.{RotationsAdd, UpAfterDown}
use Rattle.vob.proofs.TurnsLemmas.{IsRotated-list}

-- ---- a bit

pub flipped-flipped : FlipTwice
flipped-flipped bits index inside =
    let after = flipped index bits in
    let there = get_or-set_same bits index (not (item bits index)) false inside in
    let long = length-set bits index (not (item bits index)) in
    ext_get_or false (flipped index after) bits
    (length-set after index (not (item after index)) ∙ long) (λ i less.
    elim (cases_eq i index) [
      | inl here ↦ ap (item (flipped index after)) here
          ∙ get_or-set_same after index (not (item after index)) false (omega (arith, long, inside))
          ∙ ap not there ∙ not-not (item bits index) ∙ ap (item bits) (sym here)
      | inr other ↦ get_or-set_other after index i (not (item after index)) false other
          ∙ get_or-set_other bits index i (not (item bits index)) false other
    ])

-- ---- two parts, cut at their seam

module _ (xs ys : List Bool) (n : ℕ) (seam : length xs ≡ n) where
  pub take-parts : take n (xs ++ ys) ≡ xs
  take-parts = ap (λ k. take k (xs ++ ys)) (sym seam) ∙ take-append_seam xs ys

  pub drop-parts : drop n (xs ++ ys) ≡ ys
  drop-parts = ap (λ k. drop k (xs ++ ys)) (sym seam) ∙ drop-append_seam xs ys

  -- and put together again the other way round
  turned-parts : drop n (xs ++ ys) ++ take n (xs ++ ys) ≡ ys ++ xs
  turned-parts = ap (λ l. l ++ take n (xs ++ ys)) drop-parts ∙ ap (λ l. ys ++ l) take-parts

-- ---- all bits moved up or down

module _ (bits : List Bool) (n : ℕ) where
  abbrev gap : ℕ
  gap = min n (length bits)

  abbrev unset : List Bool
  unset = replicate gap false

  moved_up-is : moved_up n bits ≡ unset ++ take (length bits - n) bits
  moved_up-is = elim (cases_lt (length bits) n) [
    | inl past ↦
        let all : gap ≡ length bits = omega arith in
        let none : length bits - n ≡ 0 = omega arith in
        take-append-le (length bits) (replicate n false) bits (omega (arith, length-replicate n false))
        ∙ take-replicate (length bits) n false (omega arith)
        ∙ ap (λ k. replicate k false) (sym all) ∙ sym (append-nil unset)
        ∙ ap (λ k. unset ++ take k bits) (sym none)
    | inr within ↦
        let all : gap ≡ n = omega arith in
        let parts : length bits ≡ length (replicate n false) + (length bits - n) =
        omega (arith, length-replicate n false) in
        ap (λ k. take k (replicate n false ++ bits)) parts
        ∙ take-append-add (replicate n false) bits (length bits - n)
        ∙ ap (λ k. replicate k false ++ take (length bits - n) bits) (sym all)
  ]

  length-moved_up : length (moved_up n bits) ≡ length bits
  length-moved_up = length-take-le (length bits) (replicate n false ++ bits)
      (omega (arith, length-append (replicate n false) bits))

  length-moved_down : length (moved_down n bits) ≡ length bits
  length-moved_down = omega (
    arith,
    length-append (drop n bits) unset,
    length-drop n bits,
    length-replicate gap false,
  )

  drop-moved_up : drop n (moved_up n bits) ≡ take (length bits - n) bits
  drop-moved_up = elim (cases_lt (length bits) n) [
    | inl past ↦
        let none : length bits - n ≡ 0 = omega arith in
        drop_all n (moved_up n bits) (omega (arith, length-moved_up))
        ∙ ap (λ k. take k bits) (sym none)
    | inr within ↦ ap (drop n) moved_up-is
        ∙ drop-parts unset (take (length bits - n) bits) n (omega (arith, length-replicate gap false))
  ]

pub moved_down-moved_up : DownAfterUp
moved_down-moved_up bits n =
    ap (λ k. drop n (moved_up n bits) ++ replicate (min n k) false) (length-moved_up bits n)
    ∙ ap (λ l. l ++ unset bits n) (drop-moved_up bits n)

pub moved_up-moved_down : UpAfterDown
moved_up-moved_down bits n =
    let down = moved_down n bits in
    let long = length-moved_down bits n in
    moved_up-is down n
    ∙ ap (λ k. replicate (min n k) false ++ take (k - n) down) long
    ∙ ap (λ l. unset bits n ++ l)
    (take-parts (drop n bits) (unset bits n) (length bits - n) (length-drop n bits))

-- ---- a rotation and its way back

turned-turned : (bits : List Bool) (k m : ℕ) → k + m ≡ length bits
    → let after = drop k bits ++ take k bits in drop m after ++ take m after ≡ bits
turned-turned bits k m whole =
    turned-parts (drop k bits) (take k bits) m (omega (arith, length-drop k bits))
    ∙ take-append-drop k bits

module _ (bits : List Bool) (k : ℕ) where
  length-turned : k ≤ length bits → length (drop k bits ++ take k bits) ≡ length bits
  length-turned few = omega (
    arith,
    length-append (drop k bits) (take k bits),
    length-drop k bits,
    length-take-le k bits few,
    few,
  )

  turned-none : length bits ≡ 0 → drop k bits ++ take k bits ≡ bits
  turned-none none =
      ap (λ l. l ++ take k bits) (drop_all k bits (omega (arith, none)))
      ∙ take_all k bits (omega (arith, none))

module _ (n : ℕ) (bits : List Bool) where
  abbrev size : ℕ
  size = length bits

  way_back-none : size ≡ 0 → (rotated_back n (rotated n bits) ≡ bits)
      × (rotated n (rotated_back n bits) ≡ bits)
  way_back-none none =
      let left = turned-none bits (n % size) none in
      let right = turned-none bits (size - n % size) none in
      (ap (rotated_back n) left ∙ right, ap (rotated n) right ∙ left)

  module _ (some : 0 < size) where
    below : n % size < size
    below = mod-lt n some

    way_back : rotated_back n (rotated n bits) ≡ bits
    way_back =
        let long = length-turned bits (n % size) (omega (arith, below)) in
        ap (λ l. drop (l - n % l) (rotated n bits) ++ take (l - n % l) (rotated n bits)) long
        ∙ turned-turned bits (n % size) (size - n % size) (omega (arith, below))

    way_there : rotated n (rotated_back n bits) ≡ bits
    way_there =
        let long = length-turned bits (size - n % size) (omega arith) in
        ap (λ l. drop (n % l) (rotated_back n bits) ++ take (n % l) (rotated_back n bits)) long
        ∙ turned-turned bits (size - n % size) (n % size) (omega (arith, below))

pub rotated-back : RotateBack
rotated-back bits n = elim (cases_lt 0 (length bits)) [
  | inl some ↦ (way_back n bits some, way_there n bits some)
  | inr none ↦ way_back-none n bits (omega (arith, none))
]

pub rotated-lengths : RotateByLengths
rotated-lengths bits k =
    let size = length bits in
    let none = mul-mod_left k size in
    let whole : size - 0 ≡ size = omega arith in (
      ap (λ m. drop m bits ++ take m bits) none ∙ append-nil bits,
      ap (λ m. drop (size - m) bits ++ take (size - m) bits) none
          ∙ ap (λ m. drop m bits ++ take m bits) whole
          ∙ ap (λ l. l ++ take size bits) (drop_all size bits (omega arith))
          ∙ take_all size bits (omega arith),
    )

-- ---- two rotations

pub rotated-rotated : RotationsAdd
rotated-rotated bits n m = elim (cases_lt 0 (length bits)) [
  | inr none ↦
      let short : length bits ≡ 0 = omega arith in
      ap (rotated m) (turned-none bits (n % length bits) short)
      ∙ turned-none bits (m % length bits) short
      ∙ sym (turned-none bits ((n + m) % length bits) short)
  | inl some ↦
      let size = length bits in
      let once = rotated n bits in
      let p = IsRotated-list n {bits = bits} {after = once} some refl in
      let some_once : 0 < length once = omega (arith, p.len, some) in
      let q = IsRotated-list m {bits = once} {after = rotated m once} some_once refl in
      let r = IsRotated-list (n + m) {bits = bits} {after = rotated (n + m) bits} some refl in
      ext_get_or false (rotated m once) (rotated (n + m) bits) (q.len ∙ p.len ∙ sym r.len)
      (λ i less.
      let inside : i < size = omega (arith, less, q.len, p.len) in
      let sum : i + m + n ≡ i + (n + m) = omega arith in
      q.each i (omega (arith, less, q.len)) ∙ ap (λ k. item once ((i + m) % k)) p.len
      ∙ p.each ((i + m) % size) (mod-lt (i + m) some)
      ∙ ap (item bits) (mod-add-mod (i + m) size n ∙ ap (λ k. k % size) sum)
      ∙ sym (r.each i inside))
]

-- ---- a bit put in and taken out

pub removed-inserted : RemoveUndoesInsert
removed-inserted bits index value inside =
    let low = take index bits in
    let high = drop index bits in
    let few = length-take-le index bits inside in
    let behind : index + 1 ≡ length low + 1 = omega (arith, few) in
    let first : index - index ≡ 0 = omega arith in (
      get_or-append_right low (value ∷ high) index index false few (omega arith)
          ∙ ap (item (value ∷ high)) first,
      ap (λ l. l ++ drop (index + 1) (inserted index value bits))
          (take-parts low (value ∷ high) index few)
          ∙ ap (λ k. low ++ drop k (low ++ value ∷ high)) behind
          ∙ ap (λ l. low ++ l) (drop-append-add low (value ∷ high) 1)
          ∙ take-append-drop index bits,
    )

drop-bit : (index : ℕ) (bits : List Bool) → index < length bits
    → item bits index ∷ drop (index + 1) bits ≡ drop index bits
drop-bit index bits inside =
    ext_get_or false (item bits index ∷ drop (index + 1) bits) (drop index bits)
    (omega (arith, length-drop (index + 1) bits, length-drop index bits, inside)) (λ i less.
    elim (cases_eq i 0) [
      | inl first ↦ ap (item (item bits index ∷ drop (index + 1) bits)) first
          ∙ sym (get_or-drop index bits i false ∙ ap (item bits) (omega (arith, first)))
      | inr later ↦
          let here : i ≡ 1 + (i - 1) = omega arith in
          ap (item (item bits index ∷ drop (index + 1) bits)) here
          ∙ get_or-append-add (item bits index ∷ []) (drop (index + 1) bits) (i - 1) false
          ∙ get_or-drop (index + 1) bits (i - 1) false
          ∙ sym (get_or-drop index bits i false ∙ ap (item bits) (omega (arith, here)))
    ])

pub inserted-removed : InsertUndoesRemove
inserted-removed bits index inside =
    let low = take index bits in
    let high = drop (index + 1) bits in
    let few = length-take-le index bits (omega arith) in
    ap (λ l. l ++ item bits index ∷ drop index (low ++ high)) (take-parts low high index few)
    ∙ ap (λ l. low ++ item bits index ∷ l) (drop-parts low high index few)
    ∙ ap (λ l. low ++ l) (drop-bit index bits inside) ∙ take-append-drop index bits
