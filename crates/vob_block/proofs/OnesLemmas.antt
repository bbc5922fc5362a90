-- The number of true places, as a type counts its ones.
use lib.Count.{ones, ones_cat}
use lib.Pow.{mod-pow-add}
use Rattle.std.specs.Int.{bit_at}
use Rattle.std.specs.List.{range_with_len}
use Rattle.std.proofs.Common.{◌≡◌, ℕ, zero, suc, ◌+◌, ◌%◌, ◌^◌, ◌<◌, cond, eqb, sym, ap, ◌∙◌, arith, refl, mod-lt, mod-eq_of_lt, count_ones, count_by, add-one}
use Rattle.std.proofs.lemmas.List.Sums.{sum_by_push}
use Rattle.std.proofs.lemmas.Nat.{pow_pos}
use Rattle.std.proofs.lemmas.Nat.Bits.{bit_at-lt}
use Rattle.vob_block.specs.Places.{place, true_places}
use Rattle.vob_block.proofs.ValueLemmas.{range-more}

ones-bit : (b : ℕ) → b < 2 → count_ones b ≡ cond (eqb b 1) 1 0
unfolding ones
ones-bit zero h = refl
ones-bit (suc zero) h = refl
ones-bit (suc (suc b)) h = absurd (omega arith)

true_places-more : (w x : ℕ) → true_places (suc w) x ≡ true_places w x + cond (place w x) 1 0
unfolding true_places
true_places-more w x = ap (count_by (λ j. place j x))
    (ap (range_with_len 0) (sym (add-one w)) ∙ range-more w)
    ∙ sum_by_push (λ j. cond (place j x) 1 0) (range_with_len 0 w) w

ones-none : (x : ℕ) → x ≡ 0 → count_ones x ≡ 0
unfolding ones
ones-none x e = ap count_ones e

true_places-none : (x : ℕ) → true_places 0 x ≡ 0
unfolding true_places
true_places-none x = refl

ones-low : (w x : ℕ) → count_ones (x % 2 ^ w) ≡ true_places w x
ones-low zero x = ones-none (x % 2 ^ 0) (omega (arith, mod-lt x (pow_pos 0)))
    ∙ sym (true_places-none x)
ones-low (suc w) x =
    let more : suc w ≡ 1 + w = omega arith in
    ap (λ n. count_ones (x % 2 ^ n)) more ∙ ap count_ones (mod-pow-add x 1 w)
    ∙ ones_cat w (bit_at x w) (x % 2 ^ w) (mod-lt x (pow_pos w))
    ∙ omega (arith, ones-bit (bit_at x w) (bit_at-lt x w), ones-low w x, true_places-more w x)

pub count_ones-places : (w x : ℕ) → x < 2 ^ w → count_ones x ≡ true_places w x
count_ones-places w x h = ap count_ones (sym (mod-eq_of_lt h)) ∙ ones-low w x
