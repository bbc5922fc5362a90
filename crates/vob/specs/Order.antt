-- Where two lists of bits differ first.
use Rattle.std.specs.Prelude.{◌≡◌, ◌≢◌, ◌↔◌, ℕ, ◌<◌, Bool, true, false, List, length, Option, Some, None}
use Rattle.std.specs.Bool.{beq}
use Rattle.std.specs.Cmp.{IsPartialOrder, bool_cmp_total, partial_order_from_total}
use Rattle.std.specs.Ordering.{bool_cmp, eq_by_cmp}
use Rattle.std.proofs.Common.{refl, subst}
use Rattle.vob_block.specs.Packing.{item}

-- index i is the first below both lengths at which two lists differ
-- Example: of 10 and 111: index 1
pub record IsFirstDifference (bits others : List Bool) (i : ℕ) : Type 0 where
  pub inside : i < length bits
  pub theirs : i < length others
  pub differ : item bits i ≢ item others i
  pub same : (j : ℕ) → j < i → item bits j ≡ item others j

-- an answer is that index, and None where one list begins the other
pub record IsDifference (bits others : List Bool) (answer : Option ℕ) : Type 0 where
  pub some : (i : ℕ) → (answer ≡ Some i) ↔ IsFirstDifference bits others i
  pub none : (answer ≡ None)
      ↔ ((i : ℕ) → i < length bits → i < length others → item bits i ≡ item others i)

-- false comes before true, and two bits are equal exactly where neither comes first
pub bits_tied : (a b : Bool) → eq_by_cmp bool_cmp a b ≡ beq a b
bits_tied true true = refl
bits_tied true false = refl
bits_tied false true = refl
bits_tied false false = refl

pub bits_ordered : IsPartialOrder beq (λ a b. Some (bool_cmp a b))
bits_ordered = subst (λ (E : Bool → Bool → Bool). IsPartialOrder E (λ a b. Some (bool_cmp a b)))
    (λ i a b. bits_tied a b i) (partial_order_from_total bool_cmp_total)
