-- What a range holds of a list written over another, for the blocks that store both.
use Rattle.std.specs.Prelude.{All}
use Rattle.std.specs.declared.ops.Bound.{Bound}
use Rattle.std.specs.declared.ops.Bound.TheVariants.{Included, Excluded, Unbounded}
use Rattle.std.proofs.Common.{◌≡◌, ℕ, ◌+◌, ◌-◌, ◌*◌, ◌^◌, ◌<◌, ◌≤◌, nat_le, nat_lt, Bool, true}
use Rattle.std.proofs.Common.{false, List, ◌++◌, length, map, take, drop, refl, sym, ap, ◌∙◌, subst}
use Rattle.std.proofs.Common.{arith, inl, inr}
use Rattle.std.proofs.lemmas.Bool.{cases_lt, and_from, and_parts, le-leb, leb-true, lt-ltb, ltb-true}
use Rattle.std.proofs.lemmas.List.{ext_get_or, get_or_append_left, get_or-append_right, get_or-take}
use Rattle.std.proofs.lemmas.List.{get_or-drop, length-append, length-drop, length-map}
use Rattle.std.proofs.lemmas.List.{length-take-le}
use Rattle.vob_block.specs.Packing.{item, need, packing, unpacking, IsCanonical}
use Rattle.vob_block.proofs.NeedLemmas.{need_enough}
use Rattle.vob_block.proofs.PackingLemmas.{bit_at-is_item, length-unpacking, packing_is}
use Rattle.vob_store.specs.Copying.{AreCopied}
use Rattle.vob_walk.specs.Matches.{from_start, up_to_end, IsRangeOf}
use Rattle.vob.specs.Copy.{start_of, written_over, IsCopied, FitsFrom, FitsRange, IsRangeCopied}
use Rattle.vob.specs.Drain.{bits_within}
use Rattle.vob.proofs.BitsLemmas.{bits_within-cut}

-- ---- where a range begins

start_meets : (low : Bound ℕ) → from_start low (start_of low) ≡ true
start_meets (Included a) = le-leb a a (omega arith)
start_meets (Excluded a) = lt-ltb a (a + 1) (omega arith)
start_meets Unbounded = refl

start_least : (low : Bound ℕ) (i : ℕ) → from_start low i ≡ true → start_of low ≤ i
start_least (Included a) i h = leb-true a i h
start_least (Excluded a) i h = omega (arith, ltb-true a i h)
start_least Unbounded i h = omega arith

end_below : (high : Bound ℕ) (i j : ℕ) → i ≤ j → up_to_end high j ≡ true → up_to_end high i ≡ true
end_below (Included b) i j less h = le-leb i b (omega (arith, less, leb-true j b h))
end_below (Excluded b) i j less h = lt-ltb i b (omega (arith, less, ltb-true j b h))
end_below Unbounded i j less h = refl

-- the indices of the range below a length are those from one to below another
module _ {low high : Bound ℕ} {from to n : ℕ} (range : IsRangeOf low high n from to) where
  -- where there is one, the first is that where the range begins
  pub start-is : from < to → from ≡ start_of low
  start-is some =
      let first = start_of low in
      let here = and_parts (from_start low from) (up_to_end high from)
      (range.each from (omega (arith, some, range.inside))
      ∙ and_from (nat_le from from) (nat_lt from to) (le-leb from from (omega arith))
      (lt-ltb from to some)) in
      let least = start_least low from here.0 in
      let there = and_parts (nat_le from first) (nat_lt first to)
      (sym (range.each first (omega (arith, least, some, range.inside)))
      ∙ and_from (from_start low first) (up_to_end high first) (start_meets low)
      (end_below high first from least here.1)) in
      omega (arith, least, leb-true from first there.0)

-- ---- the list, from each of its bits

pub written-is : {at start count : ℕ} {bits others after : List Bool} (taken : List Bool)
    → IsCopied at start count bits others after → taken ≡ take count (drop start others)
    → length taken ≡ count → at + count ≤ length bits → after ≡ written_over at taken bits
written-is {at} {start} {count} {bits} {others} {after} taken h is long fits =
    let rest = drop (at + length taken) bits in
    let front : length (take at bits) ≡ at = length-take-le at bits (omega arith) in
    let whole : length (take at bits ++ (taken ++ rest)) ≡ length bits = omega (
      arith,
      length-append (take at bits) (taken ++ rest),
      length-append taken rest,
      length-drop (at + length taken) bits,
      front,
      long,
      fits,
    ) in
    ext_get_or false after (take at bits ++ (taken ++ rest)) (h.len ∙ sym whole) (λ i inside.
    elim (cases_lt i at) [
      | inl less ↦
          h.before i less ∙ sym (get_or-take at bits i false less)
          ∙ sym (get_or_append_left (take at bits) (taken ++ rest) false i
          (omega (arith, front, less)))
      | inr past ↦
          let behind = get_or-append_right (take at bits) (taken ++ rest) at i false front past in
          elim (cases_lt (i - at) count) [
            | inl new ↦
                let there : at + (i - at) ≡ i = omega (arith, past) in
                ap (item after) (sym there) ∙ h.copied (i - at) new
                ∙ sym (get_or-drop start others (i - at) false)
                ∙ sym (get_or-take count (drop start others) (i - at) false new)
                ∙ ap (λ bs. item bs (i - at)) (sym is)
                ∙ sym (get_or_append_left taken rest false (i - at) (omega (arith, long, new)))
                ∙ sym behind
            | inr old ↦
                let there : at + length taken + (i - at - count) ≡ i =
                omega (arith, past, old, long) in
                h.behind i (omega (arith, past, old)) ∙ ap (item bits) (sym there)
                ∙ sym (get_or-drop (at + length taken) bits (i - at - count) false)
                ∙ sym (get_or-append_right taken rest count (i - at) false long old)
                ∙ sym behind
          ]
    ])

-- ---- the bits of the blocks

module _ (w : ℕ) (wide : 0 < w) (at start count n m : ℕ) (xs others ys : List ℕ)
    (own : IsCanonical n xs w) (other : IsCanonical m others w) (fits : at + count ≤ n)
    (long : length ys ≡ length xs) (small : All (λ x. x < 2 ^ w) ys)
    (h : AreCopied w at start count xs others ys) where
  pub IsCanonical-copied : IsCanonical n ys w
  IsCanonical-copied = record {
    count = long ∙ own.count;
    within = small;
    unused = λ i past. h.behind i (omega (arith, fits, past)) ∙ own.unused i past;
  }

  pub IsCopied-blocks : IsCopied at start count (unpacking n xs w) (unpacking m others w)
      (unpacking n ys w)
  IsCopied-blocks =
      let new = λ (i : ℕ). sym (bit_at-is_item w wide n ys IsCanonical-copied i) in
      let old = bit_at-is_item w wide n xs own in
      record {
        len = length-unpacking n ys w ∙ sym (length-unpacking n xs w);
        copied = λ j below. new (at + j) ∙ h.copied j below
            ∙ bit_at-is_item w wide m others other (start + j);
        before = λ i less. new i ∙ h.before i less ∙ old i;
        behind = λ i past. new i ∙ h.behind i past ∙ old i;
      }

-- no bits are those from any index on
IsCopied-from : {at start count : ℕ} {bits others after : List Bool} (first : ℕ)
    → (0 < count → start ≡ first) → IsCopied at start count bits others after
    → IsCopied at first count bits others after
IsCopied-from {at} {start} {count} {bits} {others} {after} first same h = record {
  len = h.len;
  copied = λ j below. h.copied j below
      ∙ ap (λ s. item others (s + j)) (same (omega (arith, below)));
  before = h.before;
  behind = h.behind;
}

-- ---- what a range holds

-- the range cut to the indices from one to below another
module _ (low high : Bound ℕ) (others : List Bool) {from to m : ℕ} (len : m ≡ length others)
    (range : IsRangeOf low high m from to) where
  taken_is : bits_within low high others ≡ take (to - from) (drop from others)
  taken_is = bits_within-cut low high others from to range.order
      (omega (arith, range.inside, len)) (λ i below. range.each i (omega (arith, below, len)))

  pub count_is : length (bits_within low high others) ≡ to - from
  count_is = ap length taken_is ∙ length-take-le (to - from) (drop from others)
      (omega (arith, length-drop from others, range.inside, len))

  pub FitsFrom-range : (known : Type 0) (at : ℕ) (bits : List Bool)
      → FitsRange known at low high others bits → FitsFrom at low high others bits
  FitsFrom-range known at bits fits = elim fits [
    | inl stated ↦ stated.1
    | inr all ↦ omega (arith, all, count_is, range.inside, len)
  ]

  module _ {at : ℕ} {bits after : List Bool} (h : IsCopied at from (to - from) bits others after)
    where
      pub IsCopied-range : IsRangeCopied at low high bits others after
      IsCopied-range = rw count_is (IsCopied-from (start_of low)
          (λ some. start-is range (omega (arith, some))) h)

      pub IsCopied-list : FitsFrom at low high others bits
          → after ≡ written_over at (bits_within low high others) bits
      IsCopied-list fits = written-is (bits_within low high others) h taken_is count_is
          (omega (arith, fits, count_is))

-- ---- the blocks of a Vob

-- blocks that hold a list with bits of others copied over it
pub record HasCopied (w n at from count : ℕ) (bits others : List Bool) (ys : List ℕ) : Type 0 where
  pub canonical : IsCanonical n ys w
  pub each : IsCopied at from count bits others (unpacking n ys w)

-- items that store the bits that are written over, and others that store those which are copied
module _ {X : Type 0} (number : X → ℕ) (w : ℕ) (wide : 0 < w) (n at from count : ℕ)
    (items theirs : List X) (bits others : List Bool) (own : IsCanonical n (map number items) w)
    (own_is : unpacking n (map number items) w ≡ bits)
    (theirs_is : map number theirs ≡ packing others w) (fits : at + count ≤ length bits) where
  -- they are within the length
  pub copied_fits : at + count ≤ n
  copied_fits = omega (arith, fits, ap length own_is, length-unpacking n (map number items) w)

  -- and so within the blocks
  pub copied_inside : at + count ≤ length items * w
  copied_inside =
      let blocks : need n w * w ≡ length items * w =
      ap (λ k. k * w) (sym own.count ∙ length-map items number) in
      omega (arith, copied_fits, need_enough w wide n, blocks)

  module _ {lent now left : List X} (lent_is : lent ≡ items) (left_is : left ≡ now)
      (long : length now ≡ length lent) (small : All (λ x. x < 2 ^ w) (map number now))
      (done : AreCopied w at from count (map number lent) (map number theirs) (map number now))
    where
      pub copied_here : HasCopied w n at from count bits others (map number left)
      copied_here =
          let stored = packing_is w wide others (length others) (map number theirs) theirs_is refl in
          let moved : AreCopied w at from count (map number items) (map number theirs)
          (map number now) = rw lent_is at done in
          let size : length (map number now) ≡ length (map number items) = length-map now number
          ∙ long ∙ ap length lent_is ∙ sym (length-map items number) in
          let whole : IsCopied at from count bits others (unpacking n (map number now) w) =
          rw (own_is, stored.bits) at (IsCopied-blocks w wide at from count n (length others)
          (map number items) (map number theirs) (map number now) own stored.canonical copied_fits
          size small moved) in
          record {
            canonical = subst (λ (xs : List X). IsCanonical n (map number xs) w) (sym left_is)
                (IsCanonical-copied w wide at from count n (length others) (map number items)
                (map number theirs) (map number now) own stored.canonical copied_fits size small
                moved);
            each = subst (λ (xs : List X). IsCopied at from count bits others
                (unpacking n (map number xs) w)) (sym left_is) whole;
          }
