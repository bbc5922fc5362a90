-- When two lists of bits are the same.
use Rattle.std.specs.Cmp.{booleans_Decides}
use Rattle.std.specs.Cmp.Lexicographic.{pointwise_decides}
use Rattle.std.specs.Bool.{Decides, nat_eq, one_answer}
use Rattle.std.proofs.Common.{◌≡◌, ◌≢◌, ℕ, ◌<◌, Bool, List, length, sym, ap, ◌∙◌, subst, eqb-true}
use Rattle.vob_block.specs.Packing.{unpacking, IsCanonical}
use Rattle.vob_block.proofs.PackingLemmas.{length-unpacking}
use Rattle.vob_block.proofs.PointwiseLemmas.{same_from_lists}
use Rattle.vob.specs.Same.{same_bits}

-- the test of two lists is true exactly where they are equal
pub same_bits_decides : (bits others : List Bool) → Decides (same_bits bits others) (bits ≡ others)
same_bits_decides = pointwise_decides booleans_Decides

-- storage of lists of bits, which are equal exactly where their lengths and their blocks are
module _ (w : ℕ) (wide : 0 < w) (n m : ℕ) (xs ys : List ℕ) (g : IsCanonical n xs w)
    (h : IsCanonical m ys w)
    (bits others : List Bool) (is : unpacking n xs w ≡ bits) (its : unpacking m ys w ≡ others) where
  pub blocks_decide : n ≡ m → (r : Bool) → Decides r (xs ≡ ys) → Decides r (bits ≡ others)
  blocks_decide same r test =
      let theirs : unpacking n ys w ≡ others = ap (λ k. unpacking k ys w) same ∙ its in (
        (λ e. sym is ∙ ap (λ zs. unpacking n zs w) (test.0 e) ∙ theirs),
        (λ e. test.1 (same_from_lists w wide n xs ys g
            (subst (λ (k : ℕ). IsCanonical k ys w) (sym same) h) (is ∙ e ∙ sym theirs))),
      )

  pub lengths_decide : n ≢ m → Decides (nat_eq n m) (bits ≡ others)
  lengths_decide unequal = (
    (λ e. absurd (unequal (eqb-true n m e))),
    (λ e. absurd (unequal (sym (length-unpacking n xs w) ∙ ap length (is ∙ e ∙ sym its)
        ∙ length-unpacking m ys w))),
  )

-- a test of two lists that is right answers what `same_bits` does
pub same_bits_is : (bits others : List Bool) (r : Bool) → Decides r (bits ≡ others) → r
    ≡ same_bits bits others
same_bits_is bits others r test = one_answer r (same_bits bits others) test
    (same_bits_decides bits others)
