-- The set bit of a rank, by a list of bits and by its blocks.
use Rattle.std.specs.Prelude.{Option, Some, None, MatchOption}
use Rattle.std.specs.List.{range_with_len}
use Rattle.std.proofs.Common.{◌≡◌, ℕ, zero, suc, ◌+◌, ◌-◌, ◌<◌, ◌≤◌, Bool, true, false, cond, List}
use Rattle.std.proofs.Common.{[], ◌∷◌, length, take, count_by, refl, sym, ap, ◌∙◌, arith, inl, inr}
use Rattle.std.proofs.lemmas.Bool.{cases_lt, false≢true}
use Rattle.std.proofs.lemmas.List.{get_or_past, take_all}
use Rattle.std.proofs.lemmas.List.Sums.{sum_by-cons}
use Rattle.vob_block.specs.Packing.{item, bit_at, packing}
use Rattle.vob_block.proofs.PackingLemmas.{bit-in_blocks, true_inside}
use Rattle.vob_walk.specs.Count.{ones_between}
use Rattle.vob_walk.specs.Select.{HasRank}
use Rattle.vob.specs.Bits.{count_of}
use Rattle.vob.specs.Sets.{IsOfRank, IsIndexOfRank}
use Rattle.vob.proofs.SetsLemmas.{counted, rank_is, equal_by, some_where, none_where}

-- ---- set bits below an index

pub count-cons : (b : Bool) (bits : List Bool) → count_of true (b ∷ bits)
    ≡ cond b 1 0 + count_of true bits
count-cons b bits = sum_by-cons (λ v. cond v 1 0) b bits

-- a set bit is counted above it
count-more : (bits : List Bool) (i j : ℕ) → i < j → item bits i ≡ true
    → count_of true (take i bits) < count_of true (take j bits)
count-more [] i j less there = absurd (false≢true there)
count-more (b ∷ bits) i zero less there = absurd (omega arith)
count-more (b ∷ bits) zero (suc j) less there =
    omega (arith, count-cons b (take j bits), ap {B = ℕ} (λ v. cond v 1 0) there)
count-more (b ∷ bits) (suc i) (suc j) less there = omega (
  arith,
  count-cons b (take i bits),
  count-cons b (take j bits),
  count-more bits i j (omega arith) there,
)

module _ (bits : List Bool) (k : ℕ) where
  once_ranked : (i j : ℕ) → IsOfRank bits k i → IsOfRank bits k j → i ≡ j
  once_ranked i j p q = equal_by i j
      (λ less. omega (arith, count-more bits i j less p.there, p.below, q.below))
      (λ more. omega (arith, count-more bits j i more q.there, p.below, q.below))

  too_few : (i : ℕ) → IsOfRank bits k i → count_of true bits ≤ k → ⊥
  too_few i p few =
      let all = ap (count_of true) (take_all (length bits) bits (omega arith)) in
      let more = count-more bits i (length bits) (true_inside bits i p.there) p.there in
      omega (arith, all, more, p.below, few)

  pub selected : (answer : Option ℕ) → MatchOption answer (count_of true bits ≤ k)
      (IsOfRank bits k) → IsIndexOfRank bits k answer
  selected answer h = record {
    some = some_where (IsOfRank bits k) (count_of true bits ≤ k) once_ranked too_few answer h;
    none = none_where (IsOfRank bits k) (count_of true bits ≤ k) once_ranked too_few answer h;
  }

-- ---- in the blocks of a list

module _ (w : ℕ) (wide : 0 < w) (bits : List Bool) (xs : List ℕ)
    (blocks : xs ≡ packing bits w) where
  bit-is : (i : ℕ) → bit_at xs w i ≡ item bits i
  bit-is = bit-in_blocks w wide bits xs blocks

  pub some_inside : (i : ℕ) → bit_at xs w i ≡ true → i < length bits
  some_inside i there = true_inside bits i (sym (bit-is i) ∙ there)

  ones-all : (m : ℕ) → length bits ≤ m → ones_between w xs 0 m ≡ count_of true bits
  unfolding ones_between
  ones-all m fits =
      let whole : m - 0 ≡ m = omega arith in
      ap (λ n. count_by (bit_at xs w) (range_with_len 0 n)) whole
      ∙ counted (bit_at xs w) 0 bits m fits
      (λ i below. let same : 0 + i ≡ i = omega arith in ap (bit_at xs w) same ∙ bit-is i)

  ranked : (k i : ℕ) → HasRank w xs k i → IsOfRank bits k i
  ranked k i h = record {
    there = sym (bit-is i) ∙ h.there;
    below = sym (rank_is w wide bits i i (ones_between w xs 0 i) xs
        (omega (arith, some_inside i h.there)) blocks refl) ∙ h.below;
  }

  pub IsIndexOfRank-blocks : (k m : ℕ) (answer : Option ℕ) → length bits ≤ m
      → MatchOption answer (ones_between w xs 0 m ≤ k) (HasRank w xs k) → IsIndexOfRank bits k answer
  IsIndexOfRank-blocks k m None fits h = selected bits k None (omega (arith, ones-all m fits, h))
  IsIndexOfRank-blocks k m (Some i) fits h = selected bits k (Some i) (ranked k i h)
