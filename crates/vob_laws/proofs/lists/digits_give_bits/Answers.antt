-- By the bits, one after another.
use Rattle.std.proofs.Common.{◌≡◌, ℕ, Bool, true, false, List, [], ◌∷◌, map, All, refl, ap, ◌∙◌, inl, inr, arith, zero, suc, length}
use Rattle.vob_block.specs.Digits.{digit, IsDigit}
use Rattle.vob.proofs.TextLemmas.{no-bad}
use Rattle.vob_laws.proofs.lists.digits_give_bits.Goals as goal

abbrev head-of : List ℕ → ℕ
head-of [] = 0
head-of (x ∷ xs) = x

abbrev tail-of : List ℕ → List ℕ
tail-of [] = []
tail-of (x ∷ xs) = xs

same-bit : (a b : Bool) → digit a ≡ digit b → a ≡ b
same-bit true true e = refl
same-bit false false e = refl
same-bit true false e = absurd (omega (arith, e))
same-bit false true e = absurd (omega (arith, e))

same-bits : (bits others : List Bool) → map digit others ≡ map digit bits → others ≡ bits
same-bits [] [] e = refl
same-bits [] (b ∷ others) e = absurd (omega (arith, ap length e))
same-bits (a ∷ bits) [] e = absurd (omega (arith, ap length e))
same-bits (a ∷ bits) (b ∷ others) e =
    ap (λ c. c ∷ others) (same-bit b a (let P : List ℕ → ℕ = head-of in ap P e))
    ∙ ap (λ bs. a ∷ bs) (same-bits bits others (let P : List ℕ → List ℕ = tail-of in ap P e))

are-digits : (bits : List Bool) → All IsDigit (map digit bits)
are-digits [] = λ k d h. absurd (omega arith)
are-digits (true ∷ bits) = elim [
  | zero ↦ λ d h. inr refl
  | suc k ↦ λ d h. are-digits bits k d (omega (arith, h))
]
are-digits (false ∷ bits) = elim [
  | zero ↦ λ d h. inl refl
  | suc k ↦ λ d h. are-digits bits k d (omega (arith, h))
]

pub returns : goal.returns
returns c = λ bits. (same-bits bits, λ at. no-bad _ at (are-digits bits))
