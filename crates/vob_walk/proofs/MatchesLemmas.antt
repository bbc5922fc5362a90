-- Each index within a range matches one of the two values, and not both.
use Rattle.std.specs.List.{range_with_len}
use Rattle.std.specs.declared.ops.Bound.{Bound}
use Rattle.std.proofs.Common.{◌≡◌, ℕ, ◌+◌, ◌<◌, ◌≤◌, Bool, true, false, ◌&&◌, not, cond, IsTrue}
use Rattle.std.proofs.Common.{◌↔◌, List, [], ◌∷◌, length, filter, count_by, Contains, refl, ap, ◌∙◌}
use Rattle.std.proofs.Common.{sym, nat_le, nat_lt, arith, inl, inr, ◌⊎◌}
use Rattle.std.proofs.lemmas.Bool.{cases_Bool, and_from, and_left, and_right, and_parts, false≢true}
use Rattle.std.proofs.lemmas.Bool.{lt-leb, le-leb, lt-ltb, le-ltb, ltb-true, leb-true}
use Rattle.std.proofs.lemmas.List.Sums.{length-filter}
use Rattle.vob_block.specs.Packing.{item}
use Rattle.vob_walk.specs.Matches.{within, has_value, matches, IsRangeOf}
use Rattle.vob_walk.proofs.WhereLemmas.{indices_where-has, indices_where-only, length-indices_where-le}

one_more : (a b : Bool) (j : ℕ) (us vs ws : List ℕ) → length us + length vs ≡ length ws
    → length (cond (a && b) (j ∷ us) us) + length (cond (a && not b) (j ∷ vs) vs)
    ≡ length (cond a (j ∷ ws) ws)
one_more true true j us vs ws e = omega arith
one_more true false j us vs ws e = omega arith
one_more false b j us vs ws e = e

-- a test of what another holds of, and its contrary
filtered : (p q : ℕ → Bool) (is : List ℕ)
    → length (filter (λ j. p j && q j) is) + length (filter (λ j. p j && not (q j)) is)
    ≡ length (filter p is)
filtered p q [] = refl
filtered p q (j ∷ is) = one_more (p j) (q j) j (filter (λ j. p j && q j) is)
    (filter (λ j. p j && not (q j)) is) (filter p is) (filtered p q is)

module _ (bits : List Bool) (low high : Bound ℕ) where
  -- what matches is an index within the range whose bit has the value
  pub matches-only : (value : Bool) (i : ℕ) → Contains (matches bits value low high) i
      → (i < length bits) × IsTrue (within low high i) × IsTrue (has_value value (item bits i))
  unfolding matches
  matches-only value i h =
      let there = indices_where-only (λ j. within low high j && has_value value (item bits j)) 0
      (length bits) i h in
      let both = and_parts (within low high i) (has_value value (item bits i)) there.2 in
      (omega arith, both.0, both.1)

  pub matches-has : (value : Bool) (i : ℕ) → i < length bits → IsTrue (within low high i)
      → IsTrue (has_value value (item bits i)) → Contains (matches bits value low high) i
  unfolding matches
  matches-has value i inside in_range equal =
      indices_where-has (λ j. within low high j && has_value value (item bits j)) 0 (length bits)
      i (omega arith) (omega arith)
      (and_from (within low high i) (has_value value (item bits i)) in_range equal)

  pub length-matches-le : (value : Bool) → length (matches bits value low high) ≤ length bits
  unfolding matches
  length-matches-le value = length-indices_where-le
      (λ j. within low high j && has_value value (item bits j)) 0 (length bits)

  -- no index matches both values
  pub matches-apart : (i : ℕ) → Contains (matches bits true low high) i
      → Contains (matches bits false low high) i → ⊥
  matches-apart i set unset = apart (item bits i) (matches-only true i set).2
      (matches-only false i unset).2
    where
      apart : (b : Bool) → b ≡ true → not b ≡ true → ⊥
      apart true p q = false≢true q
      apart false p q = false≢true p

  -- each index within the range matches one, and nothing else does
  pub matches-combined : (i : ℕ)
      → (Contains (matches bits true low high) i ⊎ Contains (matches bits false low high) i)
      ↔ ((i < length bits) × IsTrue (within low high i))
  matches-combined i = (
    (λ h. elim h [
      | inl set ↦ let there = matches-only true i set in (there.0, there.1)
      | inr unset ↦ let there = matches-only false i unset in (there.0, there.1)
    ]),
    λ h. elim (cases_Bool (item bits i)) [
      | inl set ↦ inl (matches-has true i h.0 h.1 set)
      | inr unset ↦ inr (matches-has false i h.0 h.1 (ap not unset))
    ],
  )

  -- so both are as many as the indices within the range
  pub length-matches_both : length (matches bits true low high) + length
      (matches bits false low high) ≡ count_by (within low high) (range_with_len 0 (length bits))
  unfolding matches
  length-matches_both = filtered (within low high) (item bits) (range_with_len 0 (length bits))
      ∙ length-filter (within low high) (range_with_len 0 (length bits))

-- ---- the indices of a range

module _ {low high : Bound ℕ} {len start stop : ℕ} (range : IsRangeOf low high len start stop)
    (i : ℕ) (less : i < len) where
  pub there : within low high i ≡ true → (start ≤ i) × (i < stop)
  there holds =
      let both = and_parts (nat_le start i) (nat_lt i stop) (sym (range.each i less) ∙ holds) in
      (leb-true start i both.0, ltb-true i stop both.1)

  pub within-there : start ≤ i → i < stop → within low high i ≡ true
  within-there above below = range.each i less
      ∙ and_from (nat_le start i) (nat_lt i stop) (le-leb start i above) (lt-ltb i stop below)

  pub within-before : i < start → within low high i ≡ false
  within-before before = range.each i less
      ∙ and_left (nat_le start i) (nat_lt i stop) (lt-leb start i before)

  pub within-behind : stop ≤ i → within low high i ≡ false
  within-behind behind = range.each i less
      ∙ and_right (nat_le start i) (nat_lt i stop) (le-ltb i stop behind)
