-- A page for users: what calls in place do to a list of bits, how often a bit is in it, and what a range takes out.
use Rattle.std.specs.Prelude.{IfSome, None, Option, Some, slice_get, slice_set}
use Rattle.std.specs.Bool.{Decides}
use Rattle.std.specs.List.{range_with_len}
use Rattle.std.specs.declared.ops.Bound.{Bound}
use Rattle.std.specs.declared.ops.Bound.TheVariants.{Included, Excluded}
use Rattle.std.proofs.Common.{not, ◌≡◌, ◌≢◌, ◌↔◌, ◌⊎◌, ℕ, zero, suc, ◌+◌, ◌-◌, ◌<◌, ◌≤◌, nat_le}
use Rattle.std.proofs.Common.{nat_lt, Bool, true, false, ◌&&◌, ◌||◌, cond, List, [], ◌∷◌, ◌++◌}
use Rattle.std.proofs.Common.{length, get_or, map, take, drop, replicate, refl, sym, ap, ◌∙◌, arith, inl}
use Rattle.std.proofs.Common.{inr}
use Rattle.std.proofs.lemmas.Bool.{cases_eq, cases_lt, false≢true, and_from, and_left, and_right, lt-ltb, le-ltb, le-leb, lt-leb}
use Rattle.std.proofs.lemmas.List.{length-map, length-set, length-replicate, get_or-replicate}
use Rattle.std.proofs.lemmas.List.{get_or-set_same, get_or-set_other, set-get_or, get_or-map, ext_get_or}
use Rattle.std.proofs.lemmas.List.{append-nil, map-append, take_all, length-drop, length-take-le}
use Rattle.std.proofs.lemmas.List.{get_or-drop, get_or-take, get_or_past}
use Rattle.std.proofs.lemmas.List.FromFn.{length-map-range_with_len, get_or-map-range_with_len}
use Rattle.std.proofs.lemmas.List.Sums.{sum_by-set, sum_by-cons}
use Rattle.vob_block.specs.Packing.{item}
use Rattle.vob_block.specs.Pointwise.{differ, pointwise, without}
use Rattle.vob_block.proofs.BoolLemmas.{differ-is}
use Rattle.vob_block.proofs.PackingLemmas.{true_inside}
use Rattle.vob_block.proofs.PointwiseLemmas.{length-pointwise, item-pointwise}
use Rattle.vob_walk.specs.Matches.{within, has_value}
use Rattle.vob_walk.specs.Cursor.{indices_where}
use Rattle.vob_walk.proofs.WhereLemmas.{indices_where-split, indices_where-nothing, indices_where-all}
use Rattle.vob_walk.proofs.IndexLemmas.{has_value-same}
use Rattle.vob.specs.Sets.{IsFirstFrom, IsNext}
use Rattle.vob.specs.Drain.{bits_where, bits_within, bits_outside}
use Rattle.vob.specs.Same.{same_bits}
use Rattle.vob.proofs.SameLemmas.{same_bits_decides}
use Rattle.vob.specs.Bits.{count_of, one_of, IsWritten, IsChanged, AreCombined, LosesBits, GainsBits}

-- ---- one bit

-- a bit that is there
pub slice_get-item : (bits : List Bool) (index : ℕ) → index < length bits
    → slice_get bits index ≡ Some (item bits index)
slice_get-item [] index inside = absurd (omega arith)
slice_get-item (b ∷ bits) zero inside = refl
slice_get-item (b ∷ bits) (suc index) inside = slice_get-item bits index (omega arith)

pub IsWritten-set : (bits : List Bool) (index : ℕ) (value : Bool) → index < length bits
    → IsWritten bits index value (slice_set bits index value)
IsWritten-set bits index value inside = record {
  len = length-set bits index value;
  there = get_or-set_same bits index value false inside;
  others = λ i other. get_or-set_other bits index i value false other;
  count = λ v. sum_by-set (λ b. cond (has_value v b) 1 0) bits index value false inside;
}

module _ {bits after : List Bool} {index : ℕ} {value : Bool}
    (written : IsWritten bits index value after) (i : ℕ) where
  -- a bit after a write is the one that was written, or was so before
  pub written_cases : {bit : Bool} → item after i ≡ bit → (i ≡ index) ⊎ (item bits i ≡ bit)
  written_cases {bit} e = elim (cases_eq i index) [
    | inl here ↦ inl here
    | inr other ↦ inr (sym (written.others i other) ∙ e)
  ]

  -- a bit that has the value keeps it
  pub written_keeps : item bits i ≡ value → item after i ≡ value
  written_keeps there = elim (cases_eq i index) [
    | inl here ↦ ap (item after) here ∙ written.there
    | inr other ↦ written.others i other ∙ there
  ]

-- of some lists of bits one that has a true bit is there
pub row_inside : (rows : List (List Bool)) (n i : ℕ) → item (get_or rows n []) i ≡ true
    → n < length rows
row_inside rows n i there = elim (cases_lt n (length rows)) [
  | inl inside ↦ inside
  | inr past ↦ absurd (false≢true (ap (λ row. item row i) (sym (get_or_past rows n [] past)) ∙ there))
]

pub differ-at : (bits : List Bool) (index : ℕ) (value r : Bool) → index < length bits
    → ((r ≡ true) ↔ (slice_get bits index ≢ Some value)) → r ≡ differ (item bits index) value
differ-at bits index value r inside flag =
    differ-is r (item bits index) value (rw (slice_get-item bits index inside) at flag)

-- a bit that gets the value that it has
pub set-same : (bits : List Bool) (index : ℕ) (value : Bool) → item bits index ≡ value
    → slice_set bits index value ≡ bits
set-same bits index value there =
    ap (slice_set bits index) (sym there) ∙ set-get_or bits index false

-- a true bit is there
-- ---- how many bits have a value

pub count_cons : (value b : Bool) (bits : List Bool)
    → count_of value (b ∷ bits) ≡ one_of value b + count_of value bits
count_cons value b bits = sum_by-cons (λ y. one_of value y) b bits

one_at_most : (b : Bool) → cond b 1 0 ≤ 1
one_at_most true = omega arith
one_at_most false = omega arith

pub count_at_most : (value : Bool) (bits : List Bool) → count_of value bits ≤ length bits
count_at_most value [] = omega arith
count_at_most value (b ∷ bits) = omega (
  arith,
  count_cons value b bits,
  one_at_most (has_value value b),
  count_at_most value bits,
)

-- each bit is set or unset
pub counts_add_up : (bits : List Bool) → count_of true bits + count_of false bits ≡ length bits
counts_add_up [] = refl
counts_add_up (true ∷ bits) =
    omega (arith, count_cons true true bits, count_cons false true bits, counts_add_up bits)
counts_add_up (false ∷ bits) =
    omega (arith, count_cons true false bits, count_cons false false bits, counts_add_up bits)

-- so many bits at the start that have a value
pub leading_count : (value : Bool) (n : ℕ) (bits : List Bool) → n ≤ length bits
    → ((i : ℕ) → i < n → item bits i ≡ value) → n ≤ count_of value bits
leading_count value zero bits inside all = omega arith
leading_count value (suc n) [] inside all = absurd (omega arith)
leading_count value (suc n) (b ∷ bits) inside all =
    let first : one_of value b ≡ 1 =
    ap (λ t. cond t 1 0) (has_value-same value b (all 0 (omega arith))) in
    let rest = leading_count value n bits (omega arith) (λ i less. all (suc i) (omega arith)) in
    omega (arith, count_cons value b bits, first, rest)

pub leading_true : (n : ℕ) (bits : List Bool) → ((i : ℕ) → i < n → item bits i ≡ true)
    → n ≤ count_of true bits
leading_true zero bits all = omega arith
leading_true (suc n) bits all =
    leading_count true (suc n) bits (omega (arith, true_inside bits n (all n (omega arith)))) all

-- ---- lists of one bit

pub item_replicate : (n : ℕ) (value : Bool) (i : ℕ) → i < n → item (replicate n value) i ≡ value
item_replicate n value i inside = get_or-replicate n i value false inside

pub item_false : (n i : ℕ) → item (replicate n false) i ≡ false
item_false n i = elim (cases_lt i n) [
  | inl inside ↦ item_replicate n false i inside
  | inr past ↦ get_or_past (replicate n false) i false
      (omega (arith, past, length-replicate n false))
]

pub count_replicate : (n : ℕ) (value : Bool) → count_of value (replicate n value) ≡ n
count_replicate zero value = refl
count_replicate (suc n) value =
    let first : one_of value value ≡ 1 =
    ap (λ t. cond t 1 0) (has_value-same value value refl) in
    omega (arith, count_cons value value (replicate n value), first, count_replicate n value)

pub count_false : (n : ℕ) → count_of true (replicate n false) ≡ 0
count_false zero = refl
count_false (suc n) = omega (arith, count_cons true false (replicate n false), count_false n)

pub count_true : (n : ℕ) → count_of false (replicate n true) ≡ 0
count_true zero = refl
count_true (suc n) = omega (arith, count_cons false true (replicate n true), count_true n)

-- ---- every bit

pub IsChanged-map : (f : Bool → Bool) (bits : List Bool) → IsChanged f bits (map f bits)
IsChanged-map f bits = record {
  len = length-map bits f;
  each = λ i inside. get_or-map f bits i false false inside;
}

pub IsChanged-replicate : (value : Bool) (bits : List Bool)
    → IsChanged (λ _. value) bits (replicate (length bits) value)
IsChanged-replicate value bits = record {
  len = length-replicate (length bits) value;
  each = λ i inside. get_or-replicate (length bits) i value false inside;
}

-- ---- two lists

pub AreCombined-pointwise : (f : Bool → Bool → Bool) (bits others : List Bool)
    → length bits ≡ length others → f false false ≡ false
    → AreCombined f bits others (pointwise f bits others)
AreCombined-pointwise f bits others same none = record {
  len = length-pointwise f bits others same;
  each = item-pointwise f bits others same none;
}

count-cons : (b : Bool) (bits : List Bool)
    → count_of true (b ∷ bits) ≡ cond b 1 0 + count_of true bits
count-cons b bits = count_cons true b bits

-- what a true bit of two lists combined means
and_means : (b c : Bool) → ((b && c) ≡ true) ↔ ((b ≡ true) × (c ≡ true))
and_means true c = ((λ h. (refl, h)), (λ h. h.1))
and_means false c = ((λ h. absurd (false≢true h)), (λ h. h.0))

or_means : (b c : Bool) → ((b || c) ≡ true) ↔ ((b ≡ true) ⊎ (c ≡ true))
or_means true c = ((λ h. inl refl), (λ h. refl))
or_means false c = (
  (λ h. inr h),
  (λ h. elim h [
    | inl e ↦ absurd (false≢true e)
    | inr e ↦ e
  ]),
)

without_means : (b c : Bool) → (without b c ≡ true) ↔ ((b ≡ true) × (c ≡ false))
without_means true true = ((λ h. absurd (false≢true h)), (λ h. absurd (false≢true (sym h.1))))
without_means true false = ((λ h. (refl, refl)), (λ h. refl))
without_means false c = ((λ h. absurd (false≢true h)), (λ h. absurd (false≢true h.0)))

module _ (bits others after : List Bool) (i : ℕ) where
  pub and_true : AreCombined ◌&&◌ bits others after
      → (item after i ≡ true) ↔ ((item bits i ≡ true) × (item others i ≡ true))
  and_true both = rw (both.each i) (and_means (item bits i) (item others i))

  pub or_true : AreCombined ◌||◌ bits others after
      → (item after i ≡ true) ↔ ((item bits i ≡ true) ⊎ (item others i ≡ true))
  or_true both = rw (both.each i) (or_means (item bits i) (item others i))

  pub without_true : AreCombined without bits others after
      → (item after i ≡ true) ↔ ((item bits i ≡ true) × (item others i ≡ false))
  without_true both = rw (both.each i) (without_means (item bits i) (item others i))

-- the true bits of both are all that the first has, or fewer
pub and_fewer : (bits others : List Bool) → length bits ≡ length others
    → (pointwise ◌&&◌ bits others ≡ bits)
    ⊎ (count_of true (pointwise ◌&&◌ bits others) < count_of true bits)
and_fewer [] others same = inl refl
and_fewer (b ∷ bits) [] same = absurd (omega arith)
and_fewer (true ∷ bits) (true ∷ others) same = elim (and_fewer bits others (omega arith)) [
  | inl e ↦ inl (ap (λ xs. true ∷ xs) e)
  | inr less ↦ inr (omega (
    arith,
    less,
    count-cons true bits,
    count-cons true (pointwise ◌&&◌ bits others),
  ))
]
and_fewer (true ∷ bits) (false ∷ others) same = inr (elim (and_fewer bits others (omega arith)) [
  | inl e ↦ omega (
    arith,
    ap (count_of true) e,
    count-cons true bits,
    count-cons false (pointwise ◌&&◌ bits others),
  )
  | inr less ↦ omega (
    arith,
    less,
    count-cons true bits,
    count-cons false (pointwise ◌&&◌ bits others),
  )
])
and_fewer (false ∷ bits) (c ∷ others) same = elim (and_fewer bits others (omega arith)) [
  | inl e ↦ inl (ap (λ xs. false ∷ xs) e)
  | inr less ↦ inr (omega (
    arith,
    less,
    count-cons false bits,
    count-cons false (pointwise ◌&&◌ bits others),
  ))
]

-- those of either are all that the first has, or more
pub or_more : (bits others : List Bool) → length bits ≡ length others
    → (pointwise ◌||◌ bits others ≡ bits)
    ⊎ (count_of true bits < count_of true (pointwise ◌||◌ bits others))
or_more [] others same = inl refl
or_more (b ∷ bits) [] same = absurd (omega arith)
or_more (true ∷ bits) (c ∷ others) same = elim (or_more bits others (omega arith)) [
  | inl e ↦ inl (ap (λ xs. true ∷ xs) e)
  | inr less ↦ inr (omega (
    arith,
    less,
    count-cons true bits,
    count-cons true (pointwise ◌||◌ bits others),
  ))
]
or_more (false ∷ bits) (true ∷ others) same = inr (elim (or_more bits others (omega arith)) [
  | inl e ↦ omega (
    arith,
    ap (count_of true) e,
    count-cons false bits,
    count-cons true (pointwise ◌||◌ bits others),
  )
  | inr less ↦ omega (
    arith,
    less,
    count-cons false bits,
    count-cons true (pointwise ◌||◌ bits others),
  )
])
or_more (false ∷ bits) (false ∷ others) same = elim (or_more bits others (omega arith)) [
  | inl e ↦ inl (ap (λ xs. false ∷ xs) e)
  | inr less ↦ inr (omega (
    arith,
    less,
    count-cons false bits,
    count-cons false (pointwise ◌||◌ bits others),
  ))
]

-- a flag that is true where the list is another one
module _ (changed : Bool) (bits after : List Bool) (flag : (changed ≡ true) ↔ (after ≢ bits)) where
  by_test : (r : Bool) → Decides r (after ≡ bits) → changed ≡ false → after ≡ bits
  by_test true decides none = decides.0 refl
  by_test false decides none =
      absurd (false≢true (sym none ∙ flag.1 (λ e. false≢true (decides.1 e))))

  pub same_by_flag : changed ≡ false → after ≡ bits
  same_by_flag = by_test (same_bits after bits) (same_bits_decides after bits)

  pub LosesBits-by : (after ≡ bits) ⊎ (count_of true after < count_of true bits)
      → LosesBits changed bits after
  LosesBits-by which = record {
    same = same_by_flag;
    fewer = λ yes. elim which [
      | inl e ↦ absurd (flag.0 yes e)
      | inr less ↦ less
    ];
  }

  pub GainsBits-by : (after ≡ bits) ⊎ (count_of true bits < count_of true after)
      → GainsBits changed bits after
  GainsBits-by which = record {
    same = same_by_flag;
    more = λ yes. elim which [
      | inl e ↦ absurd (flag.0 yes e)
      | inr less ↦ less
    ];
  }

-- ---- the bits of a range, and the others

-- a stretch, index by index
stretch : (bits : List Bool) (a n : ℕ) → a + n ≤ length bits
    → map (item bits) (range_with_len a n) ≡ take n (drop a bits)
stretch bits a n inside =
    let long = length-map-range_with_len (item bits) a n in
    ext_get_or false (map (item bits) (range_with_len a n)) (take n (drop a bits))
    (long ∙ sym (length-take-le n (drop a bits) (omega (arith, length-drop a bits)))) (λ i below.
    let less : i < n = omega (arith, below, long) in
    get_or-map-range_with_len (item bits) a n i (a + i) false less refl
    ∙ sym (get_or-drop a bits i false) ∙ sym (get_or-take n (drop a bits) i false less))

-- where the indices of a range are those from one index to below another
module _ (low high : Bound ℕ) (bits : List Bool) (from to : ℕ) (ordered : from ≤ to)
    (inside : to ≤ length bits) (each : (i : ℕ) → i < length bits
    → within low high i ≡ (nat_le from i && nat_lt i to)) where
  at_before : (i : ℕ) → i < from → within low high i ≡ false
  at_before i less = each i (omega arith)
      ∙ and_left (nat_le from i) (nat_lt i to) (lt-leb from i less)

  at_within : (i : ℕ) → from ≤ i → i < to → within low high i ≡ true
  at_within i above below = each i (omega arith)
      ∙ and_from (nat_le from i) (nat_lt i to) (le-leb from i above) (lt-ltb i to below)

  at_behind : (i : ℕ) → to ≤ i → i < length bits → within low high i ≡ false
  at_behind i past less = each i less
      ∙ and_right (nat_le from i) (nat_lt i to) (le-ltb i to past)

  abbrev behind : ℕ
  behind = length bits - to

  parts : (p : ℕ → Bool) → indices_where p 0 (length bits)
      ≡ indices_where p 0 from ++ (indices_where p from (to - from) ++ indices_where p to behind)
  parts p =
      let whole : length bits ≡ from + (to - from + behind) = omega arith in
      let next : from + (to - from) ≡ to = omega arith in
      ap (indices_where p 0) whole ∙ indices_where-split p 0 from (to - from + behind)
      ∙ ap (λ k. indices_where p 0 from ++ indices_where p k (to - from + behind))
      (omega arith)
      ∙ ap (λ xs. indices_where p 0 from ++ xs) (indices_where-split p from (to - from) behind
      ∙ ap (λ k. indices_where p from (to - from) ++ indices_where p k behind) next)

  pub bits_within-cut : bits_within low high bits ≡ take (to - from) (drop from bits)
  unfolding bits_where
  bits_within-cut =
      let p = λ (i : ℕ). within low high i in
      ap (map (item bits)) (parts p
      ∙ ap (λ xs. xs ++ (indices_where p from (to - from) ++ indices_where p to behind))
      (indices_where-nothing p 0 from (λ i _ less. at_before i (omega (arith, less))))
      ∙ ap (λ xs. indices_where p from (to - from) ++ xs)
      (indices_where-nothing p to behind (λ i past less. at_behind i past (omega (arith, less))))
      ∙ append-nil (indices_where p from (to - from))
      ∙ indices_where-all p from (to - from)
      (λ i above less. at_within i above (omega (arith, less))))
      ∙ stretch bits from (to - from) (omega arith)

  pub bits_outside-cut : bits_outside low high bits ≡ take from bits ++ drop to bits
  unfolding bits_where
  bits_outside-cut =
      let p = λ (i : ℕ). not (within low high i) in
      let first : indices_where p 0 from ≡ range_with_len 0 from =
      indices_where-all p 0 from (λ i _ less. ap not (at_before i (omega (arith, less)))) in
      let none : indices_where p from (to - from) ≡ [] =
      indices_where-nothing p from (to - from)
      (λ i above less. ap not (at_within i above (omega (arith, less)))) in
      let last : indices_where p to behind ≡ range_with_len to behind =
      indices_where-all p to behind
      (λ i past less. ap not (at_behind i past (omega (arith, less)))) in
      ap (map (item bits)) (parts p
      ∙ ap (λ xs. xs ++ (indices_where p from (to - from) ++ indices_where p to behind)) first
      ∙ ap (λ xs. range_with_len 0 from ++ (xs ++ indices_where p to behind)) none
      ∙ ap (λ xs. range_with_len 0 from ++ xs) last)
      ∙ map-append (item bits) (range_with_len 0 from) (range_with_len to behind)
      ∙ ap (λ bs. bs ++ map (item bits) (range_with_len to behind))
      (stretch bits 0 from (omega arith))
      ∙ ap (λ bs. take from bits ++ bs) (stretch bits to behind (omega arith)
      ∙ take_all behind (drop to bits) (omega (arith, length-drop to bits)))

-- a range of indices that are there holds as many bits
pub length-bits_within : (bits : List Bool) (start stop : ℕ) → start ≤ stop
    → stop ≤ length bits → length (bits_within (Included start) (Excluded stop) bits) ≡ stop - start
length-bits_within bits start stop order inside =
    ap length (bits_within-cut (Included start) (Excluded stop) bits start stop order inside
    (λ i _. refl)) ∙ length-take-le (stop - start) (drop start bits)
    (omega (arith, length-drop start bits, inside))

pub count_within_at_most : (value : Bool) (bits : List Bool) (start stop : ℕ) → start ≤ stop
    → stop ≤ length bits
    → count_of value (bits_within (Included start) (Excluded stop) bits) ≤ stop - start
count_within_at_most value bits start stop order inside = omega (
  arith,
  count_at_most value (bits_within (Included start) (Excluded stop) bits),
  length-bits_within bits start stop order inside,
)

-- ---- the first bit of a value

-- a bit that isn't of the value is of the other
other_value : (value bit : Bool) → bit ≢ value → bit ≡ not value
other_value true true other = absurd (other refl)
other_value true false other = refl
other_value false true other = refl
other_value false false other = absurd (other refl)

not_same : (value : Bool) → value ≢ not value
not_same true e = false≢true (sym e)
not_same false e = false≢true e

-- it is at an index or past it exactly where the bits below that index are of the other value
pub first_past : (value : Bool) (bits : List Bool) (from end i : ℕ)
    → IsFirstFrom value bits from i
    → (end ≤ i) ↔ ((j : ℕ) → from ≤ j → j < end → item bits j ≡ not value)
first_past value bits from end i first = (
  (λ past j above less. other_value value (item bits j)
      (first.between j above (omega (arith, past, less)))),
  (λ others. elim (cases_lt i end) [
    | inl less ↦
        absurd (not_same value (sym first.there ∙ others i first.above less))
    | inr past ↦ past
  ]),
)

-- so it is at most as far on as there are bits of the other value
pub first_at_most : (value : Bool) (bits : List Bool) (i : ℕ) → IsFirstFrom value bits 0 i
    → i ≤ count_of (not value) bits
first_at_most value bits i first =
    leading_count (not value) i bits (omega (arith, first.inside))
    (λ j less. (first_past value bits 0 i i first).0 (omega arith) j (omega arith) less)

pub first_few : (value : Bool) (bits : List Bool) (answer : Option ℕ) → IsNext value bits 0 answer
    → IfSome answer (λ i. i ≤ count_of (not value) bits)
first_few value bits None next = tt
first_few value bits (Some i) next = first_at_most value bits i ((next.some i).0 refl)

-- and all bits are of the other value if there is none
pub first_none : (value : Bool) (bits : List Bool) (answer : Option ℕ) → IsNext value bits 0 answer
    → answer ≡ None → count_of (not value) bits ≡ length bits
first_none value bits answer next none =
    let all = leading_count (not value) (length bits) bits (omega arith)
    (λ i less. other_value value (item bits i) (next.none.0 none i (omega arith) less)) in
    omega (arith, all, count_at_most (not value) bits)

-- ---- the same under names that `using` takes

pub set_written : (bits : List Bool) (index : ℕ) (value : Bool) → index < length bits
    → IsWritten bits index value (slice_set bits index value)
set_written bits index value inside = IsWritten-set bits index value inside

pub length_within : (bits : List Bool) (start stop : ℕ) → start ≤ stop → stop ≤ length bits
    → length (bits_within (Included start) (Excluded stop) bits) ≡ stop - start
length_within bits start stop order inside = length-bits_within bits start stop order inside
