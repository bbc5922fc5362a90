-- What slots keep, as some are taken and given back.
use Rattle.std.specs.List.{range_with_len}
use Rattle.std.specs.declared.ops.Bound.TheVariants.{Included, Excluded}
use Rattle.std.proofs.Common.{◌≡◌, ℕ, ◌+◌, ◌*◌, ◌-◌, ◌<◌, ◌≤◌, Bool, true, false, not, ◌&&◌, cond, List, [], ◌∷◌, ◌++◌}
use Rattle.std.proofs.Common.{length, take, drop, replicate, count_by, nat_le, nat_lt, refl, sym, ap, ◌∙◌, arith, inl, inr, leb-true, ltb-true}
use Rattle.std.proofs.lemmas.Bool.{cases_lt, and_left, and_parts, lt-leb}
use Rattle.std.proofs.lemmas.List.{get_or_past}
use Rattle.std.proofs.lemmas.List.Sums.{sum_by-append, sum_by-cons, length-filter}
use Rattle.std.proofs.lemmas.List.Folds.{sum_by-replicate}
use Rattle.vob_block.specs.Packing.{item}
use Rattle.vob_walk.specs.Matches.{within, has_value, matches, IsRangeOf}
use Rattle.vob_walk.proofs.IndexLemmas.{matches-count}
use Rattle.vob.specs.Bits.{count_of}
use Rattle.vob.specs.Ranges.{replaced, IsChangedWithin}
use Rattle.vob.specs.Room.{IsRoom}
use Rattle.vob.proofs.RangeLemmas.{IsChangedWithin-value}

-- ---- rows of slots

-- a row that lies within the slots is a range of them
pub is_range : (start end len : ℕ) → start ≤ end → end ≤ len
    → IsRangeOf (Included start) (Excluded end) len start end
is_range start end len order inside =
    record { order = order; inside = inside; each = λ i less. refl }

pub row_is : (value : Bool) (bits after : List Bool) (start count : ℕ)
    → after ≡ replaced start (start + count) (replicate (start + count - start) value) bits
    → after ≡ replaced start (start + count) (replicate count value) bits
row_is value bits after start count is =
    let n : start + count - start ≡ count = omega arith in
    is ∙ ap (λ k. replaced start (start + count) (replicate k value) bits) n

pub below_start : (start end i : ℕ) → i < start → within (Included start) (Excluded end) i ≡ false
below_start start end i less = and_left (nat_le start i) (nat_lt i end) (lt-leb start i less)

count_parts : (value : Bool) (start n end : ℕ) (bits : List Bool)
    → count_of false (replaced start end (replicate n value) bits)
    ≡ count_of false (take start bits) + (n * cond (not value) 1 0 + count_of false (drop end bits))
count_parts value start n end bits =
    let one = λ (b : Bool). cond (has_value false b) 1 0 in
    sum_by-append one (take start bits) (replicate n value ++ drop end bits)
    ∙ ap (λ k. count_of false (take start bits) + k) (sum_by-append one (replicate n value)
    (drop end bits)
    ∙ ap (λ k. k + count_of false (drop end bits)) (sum_by-replicate one n value))

-- taking a row of free slots makes so many fewer
pub count-taken_run : (bits after : List Bool) (start count : ℕ) → IsRoom count bits start
    → after ≡ replaced start (start + count) (replicate (start + count - start) true) bits
    → count_of false after + count ≡ count_of false bits
count-taken_run bits after start count room is =
    let unset : IsChangedWithin (λ _. false) (Included start) (Excluded (start + count)) bits bits =
    record {
      len = refl;
      inside = λ i less ranged.
          let both = and_parts (nat_le start i) (nat_lt i (start + count)) ranged in
          room.unset i (leb-true start i both.0) (ltb-true i (start + count) both.1);
      outside = λ i none. refl;
    } in
    let before = IsChangedWithin-value unset start (start + count)
    (is_range start (start + count) (length bits) (omega arith) room.inside) in
    let n : start + count - start ≡ count = omega arith in
    let old = ap (count_of false) before ∙ count_parts false start (start + count - start)
    (start + count) bits in
    let new = ap (count_of false) is ∙ count_parts true start (start + count - start)
    (start + count) bits in
    omega (arith, old, new, n)

-- of tests, of which one passes where either of two others does
count_more : (p q r : ℕ → Bool)
    → ((i : ℕ) → cond (q i) 1 0 ≡ cond (p i) 1 0 + cond (r i) 1 0) → (xs : List ℕ)
    → count_by q xs ≡ count_by p xs + count_by r xs
count_more p q r each [] = refl
count_more p q r each (x ∷ xs) = omega (
  arith,
  sum_by-cons (λ i. cond (p i) 1 0) x xs,
  sum_by-cons (λ i. cond (q i) 1 0) x xs,
  sum_by-cons (λ i. cond (r i) 1 0) x xs,
  each x,
  count_more p q r each xs,
)

one_more : (ranged old new : Bool) → (ranged ≡ true → new ≡ false) → (ranged ≡ false → new ≡ old)
    → cond (not new) 1 0 ≡ cond (not old) 1 0 + cond (ranged && old) 1 0
one_more true true new inside outside = ap (λ b. cond (not b) 1 0) (inside refl)
one_more true false new inside outside = ap (λ b. cond (not b) 1 0) (inside refl)
one_more false true new inside outside = ap (λ b. cond (not b) 1 0) (outside refl)
one_more false false new inside outside = ap (λ b. cond (not b) 1 0) (outside refl)

-- giving a row back makes as many more as were taken there
pub count-given_run : (bits after : List Bool) (start end given : ℕ)
    → IsChangedWithin (λ _. false) (Included start) (Excluded end) bits after
    → given ≡ length (matches bits true (Included start) (Excluded end))
    → count_of false after ≡ count_of false bits + given
unfolding matches
count-given_run bits after start end given changed is =
    let inside : ℕ → Bool = within (Included start) (Excluded end) in
    let indices = range_with_len 0 (length bits) in
    let each : (i : ℕ) → cond (not (item after i)) 1 0
    ≡ cond (not (item bits i)) 1 0 + cond (inside i && item bits i) 1 0 =
    λ i. one_more (inside i) (item bits i) (item after i) (λ there. elim (cases_lt i
    (length bits)) [
      | inl less ↦ changed.inside i less there
      | inr past ↦ get_or_past after i false (omega (arith, past, changed.len))
    ]) (changed.outside i) in
    let all = count_more (λ i. not (item bits i)) (λ i. not (item after i))
    (λ i. inside i && item bits i) each indices in
    let old = sym (length-filter (λ i. not (item bits i)) indices) ∙ matches-count bits false in
    let new = sym (length-filter (λ i. not (item after i)) (range_with_len 0 (length after)))
    ∙ matches-count after false in
    let same = ap (λ n. count_by (λ i. not (item after i)) (range_with_len 0 n)) changed.len in
    let found = is ∙ length-filter (λ i. inside i && item bits i) indices in
    omega (arith, all, old, new, same, found)
