-- The first true bit of two lists of blocks combined, at a plain width.
use Rattle.std.proofs.Common.{◌≡◌, ◌≢◌, ℕ, ◌+◌, ◌-◌, ◌*◌, ◌/◌, ◌^◌, ◌<◌, Bool, List, length}
use Rattle.std.proofs.Common.{sym, ap, ◌∙◌, arith, inl, inr}
use Rattle.std.proofs.lemmas.Bool.{cases_lt}
use Rattle.std.proofs.lemmas.Nat.{div-mul-add, pow_pos}
use Rattle.std.proofs.Math.Nat.{le-div_iff_mul-le}
use Rattle.vob_block.specs.Places.{HasZerosLow}
use Rattle.vob_block.proofs.PlaceLemmas.{same_from_places, place-zero}
use Rattle.vob_store.specs.Combined.{combined_bit, HaveNone, IsFirstCombined}
use Rattle.vob_store.proofs.CombinedLemmas.{IsBlock}

-- a block that isn't 0 has a true place
pub zeros-less : (w z n : ℕ) → z < 2 ^ w → z ≢ 0 → HasZerosLow w z n → n < w
zeros-less w z n small some zeros = elim (cases_lt n w) [
  | inl below ↦ below
  | inr all ↦ absurd (some (same_from_places w z 0 small (pow_pos w)
      (λ j below. zeros.zeros j (omega (arith, all, below)) ∙ sym (place-zero j))))
]

-- the first bit of both combined is the first true place of the first block that isn't 0
module _ (f : Bool → Bool → Bool) (w : ℕ) (xs ys : List ℕ) (k z n : ℕ) where
  pub IsFirstCombined-place : IsBlock f w xs ys k z → HaveNone f w 0 k xs ys → n < w
      → HasZerosLow w z n → k < length xs → IsFirstCombined f w xs ys (k * w + n)
  IsFirstCombined-place here h less zeros inside = record {
    inside = omega (arith, at, inside);
    there = here.each n less ∙ zeros.first less;
    before = λ j lower. elim (cases_lt (j / w) k) [
      | inl front ↦ h j (omega arith) front
      | inr past ↦
          let row = (le-div_iff_mul-le {k = w} {x = k} {y = j} (omega (arith, less))).0 past in
          let whole : k * w + (j - k * w) ≡ j = omega (arith, row) in
          ap (combined_bit f w xs ys) (sym whole) ∙ here.each (j - k * w) (omega (arith, lower, less))
          ∙ zeros.zeros (j - k * w) (omega (arith, lower))
    ];
  }
    where
      at : (k * w + n) / w ≡ k
      at = div-mul-add k w n less
