-- Bits of some blocks written over those of others, at a plain width.
use Rattle.std.proofs.Common.{◌≡◌, ◌⊎◌, ℕ, ◌+◌, ◌-◌, ◌*◌, ◌/◌, ◌%◌, ◌<◌, ◌≤◌, min, ◌&&◌, cond, List, [], ◌∷◌, refl}
use Rattle.std.proofs.Common.{length, get_or, map, set, take, drop, leb, ltb, sym, ap, ◌∙◌, subst, arith, inl}
use Rattle.std.proofs.Common.{inr, mod-lt, div-add-mod', add-mul, one-mul, zero-add, zero-mul}
use Rattle.std.proofs.lemmas.Bool.{cases_lt, cases_eq, lt-ltb, le-ltb, le-leb, cond-true, cond-false}
use Rattle.std.proofs.Math.Nat.{div-lt_iff_lt-mul}
use Rattle.std.proofs.lemmas.List.{get_or-map, get_or-set_same, get_or-take, get_or-drop, get_or_past, length-map}
use Rattle.std.proofs.lemmas.Nat.{mul-le, le-div, div-mul-add, mod-mul-add}
use Rattle.vob_block.specs.Places.{place, HasPlaces}
use Rattle.vob_block.specs.Packing.{bit_at}
use Rattle.vob_block.proofs.PackingLemmas.{bit_at-in_block, bit_at-is_place, bit_at-past, bit_at-set_same, bit_at-set_other}
use Rattle.vob_store.specs.Copying.{AreCopied}
use Rattle.vob_store.proofs.FunnelLemmas.{places-funnel}

-- ---- a block of the bits from an index on

-- the block of an index and its place there; u is the width as the code read it
pub block_and_place : (w at u : ℕ) → u ≡ w → at / u * w + at % u ≡ at
block_and_place w at u same = ap (λ v. at / u * v + at % u) (sym same) ∙ div-add-mod' at u

-- it is a whole block
pub places-whole : (w from k x : ℕ) (source : List ℕ) → k * w ≡ from → x ≡ get_or source k 0
    → HasPlaces w x (λ j. bit_at source w (from + j))
places-whole w from k x source whole is = record {
  each = λ j below. ap (place j) is ∙ sym (bit_at-in_block source w k j below)
      ∙ ap (λ i. bit_at source w (i + j)) whole;
}

-- or made of two neighbours
pub places-two : (w from k by y a b : ℕ) (source : List ℕ) → k * w + by ≡ from → by < w
    → a ≡ get_or source k 0 → b ≡ get_or source (k + 1) 0
    → HasPlaces w y (λ j. cond (ltb (j + by) w) (place (j + by) a) (place (j + by - w) b))
    → HasPlaces w y (λ j. bit_at source w (from + j))
places-two w from k by y a b source whole below low high places =
    let both = places-funnel w source by k y a b below low high places in
    record { each = λ j less. both.each j less ∙ ap (bit_at source w) (omega (arith, whole)) }

-- ---- one stretch after another

-- no bits stand nowhere
pub AreCopied-anywhere : {w at start : ℕ} {xs others ys : List ℕ} (a : ℕ)
    → AreCopied w at start 0 xs others ys → AreCopied w a start 0 xs others ys
AreCopied-anywhere {w} {at} {start} {xs} {others} {ys} a h = record {
  copied = λ j none. absurd (omega arith);
  before = λ i _. same i;
  behind = λ i _. same i;
}
  where
    same : (i : ℕ) → bit_at ys w i ≡ bit_at xs w i
    same i = elim (cases_lt i at) [
      | inl less ↦ h.before i less
      | inr past ↦ h.behind i (omega (arith, past))
    ]

-- no bits
pub AreCopied-nothing : (w at start : ℕ) (xs others : List ℕ) {n : ℕ} → n ≡ 0
    → AreCopied w at start n xs others xs
AreCopied-nothing w at start xs others none = record {
  copied = λ j below. absurd (omega (arith, none, below));
  before = λ i _. refl;
  behind = λ i _. refl;
}

-- the same bits of other blocks
pub AreCopied-source : {w at start n : ℕ} {olds others xs after : List ℕ}
    → AreCopied w at start n olds others after
    → ((j : ℕ) → j < n → bit_at others w (start + j) ≡ bit_at xs w (start + j))
    → AreCopied w at start n olds xs after
AreCopied-source h same = record {
  copied = λ j below. h.copied j below ∙ same j below;
  before = h.before;
  behind = h.behind;
}

-- some bits, and those behind them
pub AreCopied-then : {w at start n m : ℕ} {olds others mid after : List ℕ}
    → AreCopied w at start n olds others mid
    → AreCopied w (at + n) (start + n) m mid others after
    → AreCopied w at start (n + m) olds others after
AreCopied-then {w} {at} {start} {n} {m} {olds} {others} {mid} {after} p q = record {
  copied = λ j below. elim (cases_lt j n) [
    | inl low ↦ q.before (at + j) (omega arith) ∙ p.copied j low
    | inr high ↦
        let here : at + j ≡ at + n + (j - n) = omega arith in
        ap (bit_at after w) here ∙ q.copied (j - n) (omega arith)
        ∙ ap (bit_at others w) (omega arith)
  ];
  before = λ i less. q.before i (omega arith) ∙ p.before i less;
  behind = λ i past. q.behind i (omega arith) ∙ p.behind i (omega arith);
}

-- some bits, and those before them
pub AreCopied-first : {w at start n m : ℕ} {olds others mid after : List ℕ}
    → AreCopied w (at + n) (start + n) m olds others mid
    → AreCopied w at start n mid others after
    → AreCopied w at start (n + m) olds others after
AreCopied-first {w} {at} {start} {n} {m} {olds} {others} {mid} {after} p q = record {
  copied = λ j below. elim (cases_lt j n) [
    | inl low ↦ q.copied j low
    | inr high ↦
        let here : at + j ≡ at + n + (j - n) = omega arith in
        q.behind (at + j) (omega arith) ∙ ap (bit_at mid w) here ∙ p.copied (j - n) (omega arith)
        ∙ ap (bit_at others w) (omega arith)
  ];
  before = λ i less. q.before i less ∙ p.before i (omega arith);
  behind = λ i past. q.behind i (omega arith) ∙ p.behind i (omega arith);
}

-- a first part, and what is left
pub AreCopied-two : {w at start n count : ℕ} {olds others mid after : List ℕ} → n ≤ count
    → AreCopied w at start n olds others mid
    → AreCopied w (at + n) (start + n) (count - n) mid others after
    → AreCopied w at start count olds others after
AreCopied-two {w} {at} {start} {n} {count} {olds} {others} {mid} {after} few front back =
    let all : n + (count - n) ≡ count = omega (arith, few) in
    subst (λ (m : ℕ). AreCopied w at start m olds others after) all (AreCopied-then front back)

-- moved down by the first stretch first, and up by the last one first: the others are still as they
-- were
pub AreCopied-down : {w at start n m : ℕ} {olds mid after : List ℕ} → at ≤ start
    → AreCopied w at start n olds olds mid → AreCopied w (at + n) (start + n) m mid mid after
    → AreCopied w at start (n + m) olds olds after
AreCopied-down {w} {at} {start} {n} order p q =
    AreCopied-then p (AreCopied-source q (λ j _. p.behind (start + n + j) (omega (arith, order))))

pub AreCopied-up : {w at start n m : ℕ} {olds mid after : List ℕ} → start ≤ at
    → AreCopied w (at + n) (start + n) m olds olds mid → AreCopied w at start n mid mid after
    → AreCopied w at start (n + m) olds olds after
AreCopied-up {w} {at} {start} {n} order p q = AreCopied-first p
    (AreCopied-source q (λ j below. p.before (start + j) (omega (arith, order, below))))

-- ---- one word

-- a word holds its own places
pub places-first : (w x : ℕ) → HasPlaces w x (λ j. bit_at (x ∷ []) w (0 + j))
places-first w x = record {
  each = λ j below. sym (bit_at-in_block (x ∷ []) w 0 j below)
      ∙ ap (bit_at (x ∷ []) w) (omega (arith, zero-mul w));
}

-- and moved down it holds those from one on
pub places-moved : (w : ℕ) → 0 < w → (x y n : ℕ)
    → HasPlaces w y (λ j. ltb (j + n) w && place (j + n) x)
    → HasPlaces w y (λ j. bit_at (x ∷ []) w (0 + n + j))
places-moved w wide x y n moved = record {
  each = λ j below. moved.each j below ∙ elim (cases_lt (j + n) w) [
    | inl less ↦ ap (λ b. b && place (j + n) x) (lt-ltb (j + n) w less)
        ∙ (places-first w x).each (j + n) less ∙ ap (bit_at (x ∷ []) w) (omega arith)
    | inr past ↦ ap (λ b. b && place (j + n) x) (le-ltb (j + n) w past)
        ∙ sym (bit_at-past (x ∷ []) w (0 + n + j) (le-div 1 (0 + n + j) w wide (omega (arith, past, one-mul w))))
  ];
}

-- ---- one block

module _ (w : ℕ) (wide : 0 < w) (xs others : List ℕ) (k y : ℕ) (room : k < length xs) where
  -- a bit whose place is as it was
  kept : (i : ℕ) → (i / w ≡ k → place (i % w) y ≡ place (i % w) (get_or xs k 0))
      → bit_at (set xs k y) w i ≡ bit_at xs w i
  kept i same = elim (cases_eq (i / w) k) [
    | inl here ↦ bit_at-set_same xs w k y i room here ∙ same here
        ∙ ap (λ q. place (i % w) (get_or xs q 0)) (sym here) ∙ sym (bit_at-is_place xs w i)
    | inr apart ↦ bit_at-set_other xs w k y i apart
  ]

  start_of : (i : ℕ) → i / w ≡ k → k * w + i % w ≡ i
  start_of i here = ap (λ q. q * w + i % w) (sym here) ∙ div-add-mod' i w

  -- stored with other places from one to below another
  pub AreCopied-set : (used start n : ℕ) → used + n ≤ w
      → ((j : ℕ) → j < n → place (used + j) y ≡ bit_at others w (start + j))
      → ((j : ℕ) → j < used → place j y ≡ place j (get_or xs k 0))
      → ((j : ℕ) → used + n ≤ j → j < w → place j y ≡ place j (get_or xs k 0))
      → AreCopied w (k * w + used) start n xs others (set xs k y)
  AreCopied-set used start n fits new low high = record {
    copied = λ j below.
        let here : k * w + used + j ≡ k * w + (used + j) = omega arith in
        ap (bit_at (set xs k y) w) here
        ∙ bit_at-in_block (set xs k y) w k (used + j) (omega arith)
        ∙ ap (place (used + j)) (get_or-set_same xs k y 0 room) ∙ new j below;
    before = λ i less. kept i (λ here. low (i % w) (omega (arith, less, start_of i here)));
    behind = λ i past. kept i (λ here.
        high (i % w) (omega (arith, past, start_of i here)) (mod-lt i wide));
  }

  -- stored whole
  pub AreCopied-block : (start : ℕ) → HasPlaces w y (λ j. bit_at others w (start + j))
      → AreCopied w (k * w) start w xs others (set xs k y)
  AreCopied-block start places =
      let first : k * w + 0 ≡ k * w = omega arith in
      subst (λ (a : ℕ). AreCopied w a start w xs others (set xs k y)) first
      (AreCopied-set 0 start w (omega arith) (λ j below. ap (λ i. place i y) (zero-add j) ∙ places.each j below)
      (λ j none. absurd (omega arith)) (λ j past below. absurd (omega (arith, past, below))))

  -- stored with its places spliced from those of bits that were moved up
  pub AreCopied-spliced : (at used start n old bits moved mid : ℕ) → k * w + used ≡ at
      → used + n ≤ w → old ≡ get_or xs k 0
      → HasPlaces w bits (λ j. bit_at others w (start + j))
      → HasPlaces w moved (λ j. leb used j && place (j - used) bits)
      → HasPlaces w mid (λ j. cond (ltb j used) (place j old) (place j moved))
      → HasPlaces w y (λ j. cond (ltb j (used + n)) (place j mid) (place j old))
      → AreCopied w at start n xs others (set xs k y)
  AreCopied-spliced at used start n old bits moved mid whole fits is its up lower upper =
      let inside = λ (j : ℕ) (h : j < used + n). upper.each j (omega arith)
      ∙ cond-true (ltb j (used + n)) (place j mid) (place j old) (lt-ltb j (used + n) h) in
      subst (λ (a : ℕ). AreCopied w a start n xs others (set xs k y)) whole
      (AreCopied-set used start n fits
      (λ j below.
      let here : used + j - used ≡ j = omega arith in
      inside (used + j) (omega arith) ∙ lower.each (used + j) (omega arith)
      ∙ cond-false (ltb (used + j) used) (place (used + j) old) (place (used + j) moved)
      (le-ltb (used + j) used (omega arith))
      ∙ up.each (used + j) (omega arith)
      ∙ ap (λ b. b && place (used + j - used) bits) (le-leb used (used + j) (omega arith))
      ∙ ap (λ p. place p bits) here ∙ its.each j (omega arith))
      (λ j less. inside j (omega arith) ∙ lower.each j (omega arith)
      ∙ cond-true (ltb j used) (place j old) (place j moved) (lt-ltb j used less)
      ∙ ap (place j) is)
      (λ j past below. upper.each j below
      ∙ cond-false (ltb j (used + n)) (place j mid) (place j old) (le-ltb j (used + n) past)
      ∙ ap (place j) is))

  -- a whole block behind those before
  pub AreCopied-next : (olds : List ℕ) (first start m from : ℕ) → first + m ≡ k
      → from ≡ start + m * w → AreCopied w (first * w) start (m * w) olds others xs
      → HasPlaces w y (λ j. bit_at others w (from + j))
      → AreCopied w (first * w) start ((m + 1) * w) olds others (set xs k y)
  AreCopied-next olds first start m from here its h places =
      let after = set xs k y in
      let there : k * w ≡ first * w + m * w = ap (λ q. q * w) (sym here) ∙ add-mul first m w in
      let all : m * w + w ≡ (m + 1) * w = omega (arith, add-mul m 1 w, one-mul w) in
      subst (λ (n : ℕ). AreCopied w (first * w) start n olds others after) all
      (AreCopied-then h (subst (λ (a : ℕ). AreCopied w a (start + m * w) w xs others after) there
      (subst (λ (s : ℕ). AreCopied w (k * w) s w xs others after) its
      (AreCopied-block from places))))

-- ---- where the parts of a stretch stand

-- the block of a bit, where there are so many
pub block_inside : (w k used at count : ℕ) → k * w + used ≡ at → at < count * w → k < count
block_inside w k used at count whole below = elim (cases_lt k count) [
  | inl less ↦ less
  | inr past ↦
      let row = mul-le count w k w past (omega arith) in absurd (omega (arith, row, whole, below))
]

-- the first part ends with its block, or no whole block is left; u is the width as the code read it
module _ (w : ℕ) (wide : 0 < w) (at count head whole u : ℕ) (same : u ≡ w)
    (first : head ≡ min count (u - at % u)) (rest : whole ≡ (count - head) / u) where
  taken_w : head ≡ min count (w - at % w)
  taken_w = first ∙ ap (λ v. min count (v - at % v)) same

  rest_w : whole * w + (count - head) % w ≡ count - head
  rest_w = ap (λ q. q * w + (count - head) % w) (rest ∙ ap (λ v. (count - head) / v) same)
      ∙ div-add-mod' (count - head) w

  pub head-le : (head ≤ count) × (at % w + head ≤ w)
  head-le = (omega (arith, taken_w), omega (arith, taken_w, mod-lt at wide))

  pub whole-le : head + whole * w ≤ count
  whole-le = omega (arith, rest_w, head-le.0)

  pub whole-few : whole ≤ count / w
  whole-few = le-div whole count w wide (omega (arith, whole-le))

  -- where bits are left behind the first part, a block begins there
  at_block : head < count → (at + head) / w * w ≡ at + head
  at_block more =
      let end : (at / w + 1) * w + 0 ≡ at + head = omega
      (arith, add-mul (at / w) 1 w, one-mul w, div-add-mod' at w, taken_w, more, mod-lt at wide) in
      ap (λ n. n / w * w) (sym end) ∙ ap (λ q. q * w) (div-mul-add (at / w + 1) w 0 wide)
      ∙ omega (arith, end)

  pub whole_at : (whole ≡ 0) ⊎ ((at + head) / w * w ≡ at + head)
  whole_at = elim (cases_eq whole 0) [
    | inl none ↦ inl none
    | inr some ↦
        let row = mul-le 1 w whole w (omega (arith, some)) (omega arith) in
        inr (at_block (omega (arith, row, one-mul w, whole-le, wide)))
  ]

  -- the whole blocks are there, and what is left behind them is within a block
  pub whole_inside : (n : ℕ) → at + count ≤ n * w → (at + head) / u + whole ≤ n
  whole_inside n inside = rw same (elim (cases_lt n ((at + head) / w + whole)) [
    | inr there ↦ there
    | inl less ↦
        let q = (at + head) / w in
        let row = mul-le (n + 1) w (q + whole) w (omega (arith, less)) (omega arith) in
        absurd (omega (
          arith,
          row,
          wide,
          inside,
          whole-le,
          add-mul q whole w,
          add-mul n 1 w,
          one-mul w,
          div-add-mod' (at + head) w,
        ))
  ])

  pub rest_one : (at + (head + whole * u)) % w + (count - (head + whole * u)) ≤ w
  rest_one = rw same (elim (cases_lt head count) [
    | inl more ↦
        let q = (at + head) / w in
        let start : at + (head + whole * w) ≡ (q + whole) * w + 0 =
        omega (arith, at_block more, add-mul q whole w) in
        let none = ap (λ n. n % w) start ∙ mod-mul-add (q + whole) w 0 wide in
        omega (arith, none, rest_w, mod-lt (count - head) wide)
    | inr past ↦ omega (arith, past, head-le.0, mod-lt (at + (head + whole * w)) wide)
  ])

  -- so many bits stand in two blocks at most
  pub part_one : count ≤ w → (at + head) % w + (count - head) ≤ w
  part_one few = elim (cases_lt head count) [
    | inl more ↦ omega (arith, at_block more, div-add-mod' (at + head) w, few)
    | inr past ↦ omega (arith, mod-lt (at + head) wide, past)
  ]

  -- the whole blocks begin where the first part ends
  pub AreCopied-middle : {start : ℕ} {olds others after : List ℕ}
      → AreCopied w ((at + head) / u * w) start (whole * w) olds others after
      → AreCopied w (at + head) start (whole * w) olds others after
  AreCopied-middle {start} {olds} {others} {after} middle = elim whole_at [
    | inl none ↦
        let zero : whole * w ≡ 0 = ap (λ q. q * w) none ∙ zero-mul w in
        subst (λ (n : ℕ). AreCopied w (at + head) start n olds others after) (sym zero)
        (AreCopied-anywhere (at + head)
        (subst (λ (n : ℕ). AreCopied w ((at + head) / u * w) start n olds others after) zero middle))
    | inr here ↦
        let there : (at + head) / u * w ≡ at + head =
        ap (λ v. (at + head) / v * w) same ∙ here in
        subst (λ (p : ℕ). AreCopied w p start (whole * w) olds others after) there middle
  ]

  units : head + whole * u ≡ head + whole * w
  units = ap (λ v. head + whole * v) same

  -- moved within some blocks, the first part first
  pub AreCopied-parts_down : {start : ℕ} {olds a b c : List ℕ} → at ≤ start
      → AreCopied w at start head olds olds a
      → AreCopied w ((at + head) / u * w) (start + head) (whole * w) a a b
      → AreCopied w (at + (head + whole * u)) (start + (head + whole * u))
      (count - (head + whole * u)) b b c → AreCopied w at start count olds olds c
  AreCopied-parts_down {start} {olds} {a} {b} {c} order front middle back =
      let all : head + whole * w + (count - (head + whole * w)) ≡ count =
      omega (arith, whole-le) in
      subst (λ (n : ℕ). AreCopied w at start n olds olds c) all
      (AreCopied-down order (AreCopied-down order front (AreCopied-middle middle)) (subst (λ (d : ℕ).
      AreCopied w (at + d) (start + d) (count - d) b b c) units back))

  -- or the last part first
  pub AreCopied-parts_up : {start : ℕ} {olds a b c : List ℕ} → start ≤ at
      → AreCopied w (at + (head + whole * u)) (start + (head + whole * u))
      (count - (head + whole * u)) olds olds a
      → AreCopied w ((at + head) / u * w) (start + head) (whole * w) a a b
      → AreCopied w at start head b b c → AreCopied w at start count olds olds c
  AreCopied-parts_up {start} {olds} {a} {b} {c} order back middle front =
      let d = head + whole * w in
      let end : at + d ≡ at + head + whole * w = omega arith in
      let source : start + d ≡ start + head + whole * w = omega arith in
      let last : AreCopied w (at + d) (start + d) (count - d) olds olds a = subst (λ (d : ℕ).
      AreCopied w (at + d) (start + d) (count - d) olds olds a) units back in
      let placed : AreCopied w (at + head + whole * w) (start + head + whole * w) (count - d) olds
      olds a = subst (λ (s : ℕ). AreCopied w (at + head + whole * w) s (count - d) olds olds a)
      source (subst (λ (p : ℕ). AreCopied w p (start + d) (count - d) olds olds a) end last) in
      let all : head + (whole * w + (count - d)) ≡ count = omega (arith, whole-le) in
      subst (λ (n : ℕ). AreCopied w at start n olds olds c) all (AreCopied-up order
      (AreCopied-up (omega (arith, order)) placed (AreCopied-middle middle)) front)

  -- the three parts are the stretch
  pub AreCopied-parts : {start : ℕ} {olds others a b c : List ℕ}
      → AreCopied w at start head olds others a
      → AreCopied w ((at + head) / u * w) (start + head) (whole * w) a others b
      → AreCopied w (at + (head + whole * u)) (start + (head + whole * u))
      (count - (head + whole * u)) b others c
      → AreCopied w at start count olds others c
  AreCopied-parts {start} {olds} {others} {a} {b} {c} front middle back =
      let all : head + whole * w + (count - (head + whole * w)) ≡ count =
      omega (arith, whole-le) in
      subst (λ (n : ℕ). AreCopied w at start n olds others c) all
      (AreCopied-then (AreCopied-then front (AreCopied-middle middle)) (subst (λ (d : ℕ).
      AreCopied w (at + d) (start + d) (count - d) b others c) units back))

-- ---- blocks moved within some blocks

-- a block more, made of two neighbours that are still as they were
module _ (w : ℕ) (wide : 0 < w) (olds xs : List ℕ) (first from places k y a b : ℕ)
    (below : places < w) (room : first + k < length xs) (low : a ≡ get_or olds (from + k) 0)
    (high : b ≡ get_or olds (from + k + 1) 0)
    (made : HasPlaces w y (λ j. cond (ltb (j + places) w) (place (j + places) a)
    (place (j + places - w) b))) where
  moved_places : HasPlaces w y (λ j. bit_at olds w (from * w + places + k * w + j))
  moved_places = places-two w (from * w + places + k * w) (from + k) places y a b olds
      (omega (arith, add-mul from k w)) below low high made

  pub AreCopied-moved_down : AreCopied w (first * w) (from * w + places) (k * w) olds olds xs
      → AreCopied w (first * w) (from * w + places) ((k + 1) * w) olds olds (set xs (first + k) y)
  AreCopied-moved_down h = AreCopied-next w wide xs olds (first + k) y room olds first
      (from * w + places) k (from * w + places + k * w) refl refl h moved_places

  pub AreCopied-moved_up : (n : ℕ)
      → AreCopied w ((first + (k + 1)) * w) (from * w + places + (k + 1) * w) (n * w) olds olds xs
      → AreCopied w ((first + k) * w) (from * w + places + k * w) ((n + 1) * w) olds olds
      (set xs (first + k) y)
  AreCopied-moved_up n h =
      let ys = set xs (first + k) y in
      let at : (first + (k + 1)) * w ≡ (first + k) * w + w =
      omega (arith, add-mul first (k + 1) w, add-mul k 1 w, one-mul w, add-mul first k w) in
      let source : from * w + places + (k + 1) * w ≡ from * w + places + k * w + w =
      omega (arith, add-mul k 1 w, one-mul w) in
      let all : w + n * w ≡ (n + 1) * w = omega (arith, add-mul n 1 w, one-mul w) in
      subst (λ (m : ℕ). AreCopied w ((first + k) * w) (from * w + places + k * w) m olds olds ys) all
      (AreCopied-first (rw (at, source) at h)
      (AreCopied-block w wide xs olds (first + k) y room (from * w + places + k * w) moved_places))

-- one of the blocks that stand in a row from block k on
pub number_in_row : {X : Type 0} (number : X → ℕ) (items row : List X) (k n j : ℕ) (d : X)
    → row ≡ take n (drop k items) → j < n → k + j < length items
    → number (get_or row j d) ≡ get_or (map number items) (k + j) 0
number_in_row number items row k n j d is below inside =
    ap (λ xs. number (get_or xs j d)) is
    ∙ ap number (get_or-take n (drop k items) j d below ∙ get_or-drop k items j d)
    ∙ sym (get_or-map number items (k + j) d 0 inside)

-- some blocks, and then others beside them that are still as they were
module _ (w first from places n m : ℕ) where
  sums : ((first + n) * w ≡ first * w + n * w)
      × ((from + n) * w + places ≡ from * w + places + n * w) × ((n + m) * w ≡ n * w + m * w)
  sums = (add-mul first n w, omega (arith, add-mul from n w), add-mul n m w)

  pub AreCopied-blocks_down : {olds mid after : List ℕ} → first ≤ from
      → AreCopied w (first * w) (from * w + places) (n * w) olds olds mid
      → AreCopied w ((first + n) * w) ((from + n) * w + places) (m * w) mid mid after
      → AreCopied w (first * w) (from * w + places) ((n + m) * w) olds olds after
  AreCopied-blocks_down order p q =
      let row = mul-le first w from w order (omega arith) in
      rw sums.2 (AreCopied-down (omega (arith, row)) p (rw (sums.0, sums.1) at q))

  pub AreCopied-blocks_up : {olds mid after : List ℕ} → from < first → places < w
      → AreCopied w ((first + n) * w) ((from + n) * w + places) (m * w) olds olds mid
      → AreCopied w (first * w) (from * w + places) (n * w) mid mid after
      → AreCopied w (first * w) (from * w + places) ((n + m) * w) olds olds after
  AreCopied-blocks_up order below p q =
      let row = mul-le (from + 1) w first w (omega (arith, order)) (omega arith) in
      let start : from * w + places ≤ first * w =
      omega (arith, row, below, add-mul from 1 w, one-mul w) in
      rw sums.2 (AreCopied-up start (rw (sums.0, sums.1) at p) q)

-- whole blocks as they are, of items with a number each
module _ {X : Type 0} (number : X → ℕ) (w : ℕ) (wide : 0 < w) (first from n : ℕ)
    (items after : List X) (d : X) (long : length after ≡ length items)
    (inside : first + n ≤ length items) (source : from + n ≤ length items) where
  read : (k m : ℕ) → k < length items → m < length items → get_or after k d ≡ get_or items m d
      → get_or (map number after) k 0 ≡ get_or (map number items) m 0
  read k m below there is = get_or-map number after k d 0 (omega (arith, below, long))
      ∙ ap number is ∙ sym (get_or-map number items m d 0 there)

  same_at : (i : ℕ) → get_or after (i / w) d ≡ get_or items (i / w) d
      → bit_at (map number after) w i ≡ bit_at (map number items) w i
  same_at i is = bit_at-is_place (map number after) w i
      ∙ ap (place (i % w)) (elim (cases_lt (i / w) (length items)) [
        | inl below ↦ read (i / w) (i / w) below below is
        | inr past ↦
            get_or_past (map number after) (i / w) 0 (omega (arith, past, long, length-map after number))
            ∙ sym (get_or_past (map number items) (i / w) 0
            (omega (arith, past, length-map items number)))
      ]) ∙ sym (bit_at-is_place (map number items) w i)

  pub AreCopied-whole : ((k : ℕ) (d : X) → first ≤ k → k < first + n
      → get_or after k d ≡ get_or items (from + (k - first)) d)
      → ((k : ℕ) (d : X) → k < first → get_or after k d ≡ get_or items k d)
      → ((k : ℕ) (d : X) → first + n ≤ k → get_or after k d ≡ get_or items k d)
      → AreCopied w (first * w) (from * w) (n * w) (map number items) (map number items)
      (map number after)
  AreCopied-whole moved below above = record {
    copied = λ j less.
        let q = j / w in
        let few : q < n = (div-lt_iff_lt-mul wide).1 less in
        let there : from + (first + q - first) ≡ from + q = omega arith in
        let whole = div-add-mod' j w in
        ap (bit_at (map number after) w) (omega (arith, add-mul first q w, whole))
        ∙ bit_at-in_block (map number after) w (first + q) (j % w) (mod-lt j wide)
        ∙ ap (place (j % w)) (read (first + q) (from + q) (omega (arith, few, inside))
        (omega (arith, few, source)) (moved (first + q) d (omega arith) (omega (arith, few))
        ∙ ap (λ k. get_or items k d) there))
        ∙ sym (bit_at-in_block (map number items) w (from + q) (j % w) (mod-lt j wide))
        ∙ ap (bit_at (map number items) w) (omega (arith, add-mul from q w, whole));
    before = λ i less. same_at i (below (i / w) d ((div-lt_iff_lt-mul wide).1 less));
    behind = λ i past. same_at i (above (i / w) d
        (le-div (first + n) i w wide (omega (arith, past, add-mul first n w))));
  }
