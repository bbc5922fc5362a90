-- The false places below the first true one and above the last, as a type counts its zeros.
use lib.Count.{count_leading_zeros, count_trailing_zeros, leading_of_zero, leading_top, trailing_of_zero}
use Rattle.std.specs.Int.{Width, leading_zeros, trailing_zeros}
use Rattle.num_traits.specs.Laws.{bit_len}
use Rattle.std.proofs.Common.{◌≡◌, ℕ, suc, ◌+◌, ◌-◌, ◌*◌, ◌^◌, ◌<◌, ◌≤◌, true, eqb, sym, ap, ◌∙◌, subst, arith, inl, inr, pow-suc}
use Rattle.std.proofs.lemmas.Bool.{cases_lt}
use Rattle.std.proofs.lemmas.Nat.Bits.{bit_at-trailing_zeros, bit_at_cat_high}
use mir.Val.{bits}
use Rattle.vob_block.specs.Places.{place, HasZerosLow, HasZerosHigh}
use Rattle.vob_block.proofs.PlaceLemmas.{bits_is, place-zero, place_above}

-- no place of 0 is true
HasZerosLow-none : (w x n : ℕ) → x ≡ 0 → n ≡ w → HasZerosLow w x n
HasZerosLow-none w x n none all = record {
  bound = omega arith;
  zeros = λ j h. ap (place j) none ∙ place-zero j;
  first = λ h. absurd (omega arith);
}

HasZerosHigh-none : (w x n : ℕ) → x ≡ 0 → n ≡ w → HasZerosHigh w x n
HasZerosHigh-none w x n none all = record {
  bound = omega arith;
  zeros = λ j h. ap (place (w - 1 - j)) none ∙ place-zero (w - 1 - j);
  last = λ h. absurd (omega arith);
}

-- the highest place of a number of j + 1 places
place-top : (x j : ℕ) → 2 ^ j ≤ x → x < 2 ^ suc j → place j x ≡ true
place-top x j low high =
    let split : x ≡ 1 * 2 ^ j + (x - 2 ^ j) = omega arith in
    let same : j - j ≡ 0 = omega arith in
    ap (place j) split ∙ ap (λ b. eqb b 1) (bit_at_cat_high 1 j (x - 2 ^ j) j
    (omega (arith, pow-suc 2 j)) (omega arith)) ∙ ap (λ i. place i 1) same

-- v is the width as a block has it, and w that of the type
pub HasZerosLow-trailing : (w : Width) (v x n : ℕ) → v ≡ bit_len w → x < 2 ^ v → n
    ≡ trailing_zeros w x → HasZerosLow v x n
HasZerosLow-trailing w v x n e within is =
    let all : bits w ≡ v = bits_is w ∙ sym e in
    elim (cases_lt 0 x) [
      | inl some ↦
          let lowest = bit_at-trailing_zeros w x some
          (subst (λ (m : ℕ). x < 2 ^ m) (sym all) within) in
          record {
            bound = omega (arith, lowest.0);
            zeros = λ j h. ap (λ b. eqb b 1) (lowest.2 j (omega arith));
            first = λ h. ap (λ k. place k x) is ∙ ap (λ b. eqb b 1) lowest.1;
          }
      | inr none ↦
          let zero : x ≡ 0 = omega arith in
          HasZerosLow-none v x n zero (is ∙ ap (count_trailing_zeros (bits w)) zero
          ∙ trailing_of_zero (bits w) ∙ all)
    ]

pub HasZerosHigh-leading : (w : Width) (v x n : ℕ) → v ≡ bit_len w → x < 2 ^ v → n
    ≡ leading_zeros w x → HasZerosHigh v x n
HasZerosHigh-leading w v x n e within is =
    let all : bits w ≡ v = bits_is w ∙ sym e in
    elim (cases_lt 0 x) [
      | inl some ↦
          let top = leading_top (bits w) x some (subst (λ (m : ℕ). x < 2 ^ m) (sym all) within) in
          let highest : v - 1 - n ≡ top.0 = omega (arith, top.1) in
          record {
            bound = omega (arith, top.1);
            zeros = λ j h. place_above x (suc top.0) (v - 1 - j) top.3 (omega (arith, top.1));
            last = λ h. ap (λ k. place k x) highest ∙ place-top x top.0 top.2 top.3;
          }
      | inr none ↦
          let zero : x ≡ 0 = omega arith in
          HasZerosHigh-none v x n zero (is ∙ ap (count_leading_zeros (bits w)) zero
          ∙ leading_of_zero (bits w) ∙ all)
    ]
