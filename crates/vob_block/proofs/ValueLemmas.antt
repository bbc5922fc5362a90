-- The number that has given places, and no other.
use Rattle.std.specs.Int.{bit_at}
use Rattle.std.specs.Prelude.{sum_by}
use Rattle.std.specs.List.{range_with_len}
use Rattle.std.proofs.Common.{◌≡◌, ℕ, zero, suc, ◌+◌, ◌-◌, ◌*◌, ◌^◌, ◌<◌, Bool, true, false, cond}
use Rattle.std.proofs.Common.{[], ◌∷◌, ◌++◌, refl, sym, ap, ◌∙◌, arith, inl, inr, add-one, eqb}
use Rattle.std.proofs.lemmas.Bool.{cases_lt}
use Rattle.std.proofs.lemmas.List.{map-id}
use Rattle.std.proofs.lemmas.List.FromFn.{map-range_with_len_more}
use Rattle.std.proofs.lemmas.List.Sums.{sum_by_push}
use Rattle.std.proofs.lemmas.Nat.{pow-add}
use Rattle.std.proofs.lemmas.Nat.Bits.{bit_at_cat_low, bit_at_cat_high}
use Rattle.vob_block.specs.Places.{place, value}

pub range-more : (n : ℕ) → range_with_len 0 (n + 1) ≡ range_with_len 0 n ++ n ∷ []
range-more n = sym (map-id (range_with_len 0 (n + 1)))
    ∙ map-range_with_len_more (λ (x : ℕ). x) 0 n n (omega arith)
    ∙ ap (λ xs. xs ++ n ∷ []) (map-id (range_with_len 0 n))

-- one more place stands above those that are there
value-more : (w : ℕ) (f : ℕ → Bool) → value (suc w) f ≡ cond (f w) 1 0 * 2 ^ w + value w f
unfolding value
value-more w f =
    let weight = λ (j : ℕ). cond (f j) (2 ^ j) 0 in
    ap (sum_by weight) (ap (range_with_len 0) (sym (add-one w)) ∙ range-more w)
    ∙ sum_by_push weight (range_with_len 0 w) w
    ∙ first (f w) (2 ^ w) (sum_by weight (range_with_len 0 w))
  where
    first : (b : Bool) (p n : ℕ) → n + cond b p 0 ≡ cond b 1 0 * p + n
    first true p n = omega arith
    first false p n = omega arith

value-none : (f : ℕ → Bool) → value 0 f < 2 ^ 0
unfolding value
value-none f = omega arith

pub value-lt : (w : ℕ) (f : ℕ → Bool) → value w f < 2 ^ w
value-lt zero f = value-none f
value-lt (suc w) f = rw (value-more w f) (bound (f w) (value w f) (value-lt w f))
  where
    bound : (b : Bool) (n : ℕ) → n < 2 ^ w → cond b 1 0 * 2 ^ w + n < 2 ^ suc w
    bound true n h = omega (arith, pow-add 2 w 1)
    bound false n h = omega (arith, pow-add 2 w 1)

bit-test : (b : Bool) → eqb (bit_at (cond b 1 0) 0) 1 ≡ b
bit-test true = refl
bit-test false = refl

-- a value has the places that it is made of
pub place-value : (w j : ℕ) (f : ℕ → Bool) → j < w → place j (value w f) ≡ f j
place-value zero j f h = absurd (omega arith)
place-value (suc w) j f h = rw (value-more w f) (elim (cases_lt j w) [
  | inl below ↦ ap (λ b. eqb b 1) (bit_at_cat_low (cond (f w) 1 0) w (value w f) j below)
      ∙ place-value w j f below
  | inr top ↦
      let last : j ≡ w = omega arith in
      let lowest : j - w ≡ 0 = omega arith in
      let high = bit_at_cat_high (cond (f w) 1 0) w (value w f) j (value-lt w f) top in
      ap (λ b. eqb b 1) (high ∙ ap (bit_at (cond (f w) 1 0)) lowest) ∙ bit-test (f w)
      ∙ ap f (sym last)
])
