-- The index that is next to another, by the blocks, and how many bits are set below one.
use Rattle.std.specs.Prelude.{Option, Some, None, MatchOption, IfSome, replicate}
use Rattle.std.specs.List.{range_with_len}
use Rattle.std.specs.Option.{is_some}
use Rattle.std.proofs.Common.{◌≡◌, ◌≢◌, ◌↔◌, ℕ, zero, suc, ◌+◌, ◌-◌, ◌<◌, ◌≤◌, min, Bool, true}
use Rattle.std.proofs.Common.{false, not, cond, List, [], ◌∷◌, length, map, take, count_by, refl}
use Rattle.std.proofs.Common.{sym, ap, ◌∙◌, subst, arith, inl, inr}
use Rattle.std.proofs.lemmas.Bool.{cases_lt, false≢true}
use Rattle.std.proofs.lemmas.List.{ext_get_or, get_or-replicate, get_or-take, length-map, length-replicate, length-take}
use Rattle.std.proofs.lemmas.List.Sums.{sum_by-cons}
use Rattle.vob_block.specs.Packing.{item, need, bit_at, packing}
use Rattle.vob_block.proofs.PackingLemmas.{bit-in_blocks, bit_at-packing, length-packing, true_inside}
use Rattle.vob_walk.specs.Count.{ones_between}
use Rattle.vob_walk.specs.Next.{HasNoBit, IsFirstBit, IsLastBit}
use Rattle.vob.specs.Bits.{count_of}
use Rattle.vob.specs.Sets.{HasBit, HasOnly, IsBit, IsFirstFrom, IsIndexOfRank, IsLastUpTo, IsNext, IsPrevious}

-- ---- answers

-- where P can hold of one index alone, and of none where N holds, an answer of which P or N holds
-- says which does
module _ (P : ℕ → Type 0) (N : Type 0) (once : (i j : ℕ) → P i → P j → i ≡ j)
    (apart : (i : ℕ) → P i → N → ⊥) where
  pub some_where : (answer : Option ℕ) → MatchOption answer N P → (i : ℕ) → (answer ≡ Some i) ↔ P i
  some_where None h i = (λ e. cc, λ p. absurd (apart i p h))
  some_where (Some j) h i = (
    (λ e. let same : j ≡ i = cc in subst P same h),
    (λ p. ap Some (once j i h p)),
  )

  pub none_where : (answer : Option ℕ) → MatchOption answer N P → (answer ≡ None) ↔ N
  none_where None h = (λ _. h, λ _. refl)
  none_where (Some j) h = (λ e. cc, λ none. absurd (apart j h none))

-- two numbers of which neither is below the other
pub equal_by : (i j : ℕ) → (i < j → ⊥) → (j < i → ⊥) → i ≡ j
equal_by i j below above = elim (cases_lt i j) [
  | inl less ↦ absurd (below less)
  | inr more ↦ elim (cases_lt j i) [
    | inl less ↦ absurd (above less)
    | inr same ↦ omega arith
  ]
]

module _ (value : Bool) (bits : List Bool) (from : ℕ) where
  once_first : (i j : ℕ) → IsFirstFrom value bits from i → IsFirstFrom value bits from j → i ≡ j
  once_first i j p q = equal_by i j (λ less. q.between i p.above less p.there)
      (λ less. p.between j q.above less q.there)

  once_last : (i j : ℕ) → IsLastUpTo value bits from i → IsLastUpTo value bits from j → i ≡ j
  once_last i j p q = equal_by i j (λ less. p.between j less q.below q.inside q.there)
      (λ less. q.between i less p.below p.inside p.there)

  next_is : (answer : Option ℕ) → MatchOption answer
      ((i : ℕ) → from ≤ i → i < length bits → item bits i ≢ value) (IsFirstFrom value bits from)
      → IsNext value bits from answer
  next_is answer h =
      let P : ℕ → Type 0 = IsFirstFrom value bits from in
      let N : Type 0 = (i : ℕ) → from ≤ i → i < length bits → item bits i ≢ value in
      let apart = λ (i : ℕ) (p : P i) (n : N). n i p.above p.inside p.there in record {
        some = some_where P N once_first apart answer h;
        none = none_where P N once_first apart answer h;
      }

  previous_is : (answer : Option ℕ) → MatchOption answer
      ((i : ℕ) → i ≤ from → i < length bits → item bits i ≢ value) (IsLastUpTo value bits from)
      → IsPrevious value bits from answer
  previous_is answer h =
      let P : ℕ → Type 0 = IsLastUpTo value bits from in
      let N : Type 0 = (i : ℕ) → i ≤ from → i < length bits → item bits i ≢ value in
      let apart = λ (i : ℕ) (p : P i) (n : N). n i p.below p.inside p.there in record {
        some = some_where P N once_last apart answer h;
        none = none_where P N once_last apart answer h;
      }

-- ---- an index that is found among the blocks of a list

module _ {X : Type 0} (w : ℕ) (wide : 0 < w) (number : X → ℕ) (items : List X) (bits : List Bool)
    (n : ℕ) (blocks : map number items ≡ packing bits w) (long : n ≡ length bits) where
  abbrev xs : List ℕ
  xs = map number items

  pub enough_blocks : need n w ≤ length items
  enough_blocks = omega (
    arith,
    ap (λ m. need m w) long,
    length-map items number,
    ap length blocks,
    length-packing w wide bits,
  )

  bit-is : (i : ℕ) → bit_at xs w i ≡ item bits i
  bit-is = bit-in_blocks w wide bits xs blocks

  module _ (value : Bool) (from : ℕ) where
    pub IsNext-blocks : (answer : Option ℕ)
        → MatchOption answer (HasNoBit w xs value from n) (IsFirstBit w xs value from n)
        → IsNext value bits from answer
    IsNext-blocks None h = next_is value bits from None
        (λ i above inside same. h i above (omega arith) (bit-is i ∙ same))
    IsNext-blocks (Some i) h = next_is value bits from (Some i) record {
      above = h.above;
      inside = omega (arith, h.below);
      there = sym (bit-is i) ∙ h.there;
      between = λ j above less same. h.between j above less (bit-is j ∙ same);
    }

    pub IsPrevious-blocks : (answer : Option ℕ)
        → MatchOption answer (HasNoBit w xs value 0 (min (from + 1) n))
        (IsLastBit w xs value (min (from + 1) n)) → IsPrevious value bits from answer
    IsPrevious-blocks None h = previous_is value bits from None
        (λ i below inside same. h i (omega arith) (omega arith) (bit-is i ∙ same))
    IsPrevious-blocks (Some i) h = previous_is value bits from (Some i) record {
      below = omega (arith, h.below);
      inside = omega (arith, h.below);
      there = sym (bit-is i) ∙ h.there;
      between = λ j more below inside same.
          h.between j (omega arith) (omega arith) (bit-is j ∙ same);
    }

-- ---- whether some bit has a value, and whether every bit has

module _ (value : Bool) (bits : List Bool) where
  pub only_is_list : HasOnly value bits ↔ (bits ≡ replicate (length bits) value)
  only_is_list = (
    (λ only. ext_get_or false bits (replicate (length bits) value)
        (sym (length-replicate (length bits) value))
        (λ i inside. only i inside ∙ sym (get_or-replicate (length bits) i value false inside))),
    (λ e i inside. ap (λ xs. item xs i) e ∙ get_or-replicate (length bits) i value false inside),
  )

other_value : (value b : Bool) → b ≢ value → b ≡ not value
other_value true true h = absurd (h refl)
other_value true false h = refl
other_value false true h = refl
other_value false false h = absurd (h refl)

not_value : (value : Bool) → value ≡ not value → ⊥
not_value true e = false≢true (sym e)
not_value false e = false≢true e

module _ (value : Bool) (bits : List Bool) where
  is_found : (answer : Option ℕ) → IsNext value bits 0 answer
      → (is_some answer ≡ true) ↔ HasBit value bits
  is_found None h = (
    (λ e. absurd (false≢true e)),
    (λ has. absurd (h.none.0 refl has.0 (omega arith) has.1 has.2)),
  )
  is_found (Some i) h =
      let first = (h.some i).0 refl in ((λ _. (i, first.inside, first.there)), (λ _. refl))

  is_only : (answer : Option ℕ) → IsNext value bits 0 answer
      → (is_some answer ≡ false) ↔ HasOnly (not value) bits
  is_only None h = (
    (λ _ i inside. other_value value (item bits i) (h.none.0 refl i (omega arith) inside)),
    (λ _. refl),
  )
  is_only (Some i) h =
      let first = (h.some i).0 refl in (
        (λ e. absurd (false≢true (sym e))),
        (λ only. absurd (not_value value (sym first.there ∙ only i first.inside))),
      )

is_false : (r : Bool) → not r ≡ false → r ≡ true
is_false true e = refl
is_false false e = absurd (false≢true (sym e))

is_true : (r : Bool) → (r ≡ false → ⊥) → r ≡ true
is_true true h = refl
is_true false h = absurd (h refl)

module _ (value : Bool) (bits : List Bool) (answer : Option ℕ) (next : IsNext value bits 0 answer)
    (r : Bool) where
  -- an answer that is true where an index was found
  module _ (flag : r ≡ is_some answer) where
    pub HasBit-found : (r ≡ true) ↔ HasBit value bits
    HasBit-found =
        let found = is_found value bits answer next in
        ((λ e. found.0 (sym flag ∙ e)), (λ has. flag ∙ found.1 has))

    pub not_replicate-found : (r ≡ true) ↔ (bits ≢ replicate (length bits) (not value))
    not_replicate-found =
        let only = is_only value bits answer next in
        let list = only_is_list (not value) bits in (
          (λ e same. false≢true (sym (only.1 (list.1 same)) ∙ sym flag ∙ e)),
          (λ other. flag ∙ is_true (is_some answer) (λ none. other (list.0 (only.0 none)))),
        )

    pub HasOnly-missed : r ≡ false → HasOnly (not value) bits
    HasOnly-missed unset = (is_only value bits answer next).0 (sym flag ∙ unset)

  -- and one that is true where none was
  module _ (flag : is_some answer ≡ not r) where
    pub HasOnly-none : (r ≡ true) ↔ HasOnly (not value) bits
    HasOnly-none =
        let only = is_only value bits answer next in
        ((λ e. only.0 (flag ∙ ap not e)), (λ all. is_false r (sym flag ∙ only.1 all)))

    pub replicate-none : (r ≡ true) ↔ (bits ≡ replicate (length bits) (not value))
    replicate-none =
        let list = only_is_list (not value) bits in
        ((λ e. list.0 (HasOnly-none.0 e)), (λ e. HasOnly-none.1 (list.1 e)))

    pub HasBit-missed : r ≡ false → HasBit value bits
    HasBit-missed unset = (is_found value bits answer next).0 (flag ∙ ap not unset)

-- ---- how many bits are set below an index

-- a test of so many numbers that holds where the bits of a list are true, and nowhere past its end
pub counted : (f : ℕ → Bool) (a : ℕ) (bits : List Bool) (m : ℕ) → length bits ≤ m
    → ((i : ℕ) → i < m → f (a + i) ≡ item bits i)
    → count_by f (range_with_len a m) ≡ count_of true bits
counted f a [] zero fits same = refl
counted f a (b ∷ bits) zero fits same = absurd (omega arith)
counted f a [] (suc m) fits same =
    sum_by-cons (λ i. cond (f i) 1 0) a (range_with_len (a + 1) m)
    ∙ ap (λ v. cond v 1 0 + count_by f (range_with_len (a + 1) m))
    (ap f (omega arith) ∙ same 0 (omega arith))
    ∙ omega (
      arith,
      counted f (a + 1) [] m (omega arith) (λ i inside.
          let next : a + 1 + i ≡ a + suc i = omega arith in ap f next ∙ same (suc i) (omega arith)),
    )
counted f a (b ∷ bits) (suc m) fits same =
    let here : a + 0 ≡ a = omega arith in
    let first : f a ≡ b = ap f (sym here) ∙ same 0 (omega arith) in
    let rest = counted f (a + 1) bits m (omega arith) (λ i inside.
    let next : a + 1 + i ≡ a + suc i = omega arith in ap f next ∙ same (suc i) (omega arith)) in
    sum_by-cons (λ i. cond (f i) 1 0) a (range_with_len (a + 1) m)
    ∙ ap (λ v. cond v 1 0 + count_by f (range_with_len (a + 1) m)) first
    ∙ ap (λ n. cond b 1 0 + n) rest ∙ sym (sum_by-cons (λ v. cond v 1 0) b bits)

pub rank_is : (w : ℕ) → 0 < w → (bits : List Bool) (index stop r : ℕ) (xs : List ℕ)
    → stop ≡ min index (length bits) → xs ≡ packing bits w → r ≡ ones_between w xs 0 stop
    → r ≡ count_of true (take index bits)
unfolding ones_between
rank_is w wide bits index stop r xs e blocks ones =
    let below = take index bits in
    let long : length below ≡ stop = length-take index bits ∙ sym e in
    let whole : stop - 0 ≡ length below = omega (arith, long) in
    ones ∙ ap (λ n. count_by (bit_at xs w) (range_with_len 0 n)) whole
    ∙ counted (bit_at xs w) 0 below (length below) (omega arith) (λ i inside.
    let same : 0 + i ≡ i = omega arith in
    ap (bit_at xs w) same ∙ ap (λ ys. bit_at ys w i) blocks ∙ bit_at-packing w wide bits i
    ∙ sym (get_or-take index bits i false (omega (arith, inside, long, e))))

-- ---- an index that is found is that of a bit

pub IsNext-inside : (value : Bool) (bits : List Bool) (from : ℕ) (answer : Option ℕ)
    → IsNext value bits from answer → IfSome answer (λ i. IsBit value bits i)
IsNext-inside value bits from None h = tt
IsNext-inside value bits from (Some i) h =
    let found = (h.some i).0 refl in (found.inside, found.there)

pub IsNext-above : (value : Bool) (bits : List Bool) (from top : ℕ) (answer : Option ℕ)
    → IsNext value bits from answer → length bits ≤ top
    → IfSome answer (λ i. (from ≤ i) × (i < top))
IsNext-above value bits from top None h fits = tt
IsNext-above value bits from top (Some i) h fits =
    let found = (h.some i).0 refl in (found.above, omega (arith, found.inside))

pub IsPrevious-below : (value : Bool) (bits : List Bool) (upto : ℕ) (answer : Option ℕ)
    → IsPrevious value bits upto answer → IfSome answer (λ i. i ≤ upto)
IsPrevious-below value bits upto None h = tt
IsPrevious-below value bits upto (Some i) h = ((h.some i).0 refl).below

pub IsPrevious-inside : (value : Bool) (bits : List Bool) (upto : ℕ) (answer : Option ℕ)
    → IsPrevious value bits upto answer → IfSome answer (λ i. IsBit value bits i)
IsPrevious-inside value bits upto None h = tt
IsPrevious-inside value bits upto (Some i) h =
    let found = (h.some i).0 refl in (found.inside, found.there)

pub IsIndexOfRank-inside : (bits : List Bool) (k : ℕ) (answer : Option ℕ)
    → IsIndexOfRank bits k answer → IfSome answer (λ i. IsBit true bits i)
IsIndexOfRank-inside bits k None h = tt
IsIndexOfRank-inside bits k (Some i) h =
    let found = (h.some i).0 refl in (true_inside bits i found.there, found.there)
