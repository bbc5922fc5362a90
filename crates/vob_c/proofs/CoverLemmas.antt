-- A list that holds all numbers below its length holds each of them once.
use Rattle.std.proofs.Common.{◌≡◌, ◌≢◌, ℕ, zero, suc, ◌+◌, ◌<◌, ◌≤◌, List, [], ◌∷◌, length, get_or, Contains, refl, sym, ap, ◌∙◌, arith, inl, inr}
use Rattle.std.proofs.lemmas.Bool.{cases_eq}
use Rattle.std.proofs.lemmas.List.{get_or_default}

-- without the item at place k
abbrev without_at : ℕ → List ℕ → List ℕ
without_at k [] = []
without_at zero (x ∷ xs) = xs
without_at (suc k) (x ∷ xs) = x ∷ without_at k xs

length-without_at : (k : ℕ) (xs : List ℕ) → k < length xs → length (without_at k xs) + 1 ≡ length xs
length-without_at k [] less = absurd (omega (arith, less))
length-without_at zero (x ∷ xs) less = omega arith
length-without_at (suc k) (x ∷ xs) less = omega (arith, length-without_at k xs (omega (arith, less)))

-- the other items stay
stays : (k : ℕ) (xs : List ℕ) (n j : ℕ) → j < length xs → get_or xs j n ≡ n → j ≢ k
    → Contains (without_at k xs) n
stays k [] n j less is apart = absurd (omega (arith, less))
stays zero (x ∷ xs) n zero less is apart = absurd (apart refl)
stays zero (x ∷ xs) n (suc j) less is apart = (j, omega (arith, less), is)
stays (suc k) (x ∷ xs) n zero less is apart = (0, omega arith, is)
stays (suc k) (x ∷ xs) n (suc j) less is apart =
    let rest = stays k xs n j (omega (arith, less)) is (λ e. apart (ap suc e)) in
    (suc rest.0, omega (arith, rest.1), rest.2)

-- all numbers below one
abbrev pub Covers : List ℕ → ℕ → Type 0
Covers xs size = (n : ℕ) → n < size → Contains xs n

covers_long : (size : ℕ) (xs : List ℕ) → Covers xs size → size ≤ length xs
covers_long zero xs all = omega arith
covers_long (suc size) xs all =
    let last = all size (omega arith) in
    let rest = covers_long size (without_at last.0 xs) (λ n less.
    let at = all n (omega (arith, less)) in
    stays last.0 xs n at.0 at.1 at.2 (λ same.
    let is : n ≡ size = sym at.2 ∙ get_or_default xs at.0 n size at.1
    ∙ ap (λ k. get_or xs k size) same ∙ last.2 in omega (arith, less, is))) in
    omega (arith, rest, length-without_at last.0 xs last.1)

pub covers_once : (size : ℕ) (xs : List ℕ) → length xs ≤ size → Covers xs size → (i k : ℕ) → i < k
    → k < length xs → get_or xs i 0 ≢ get_or xs k 0
covers_once size xs few all i k before less same =
    let there : i < length xs = omega (arith, before, less) in
    let rest = covers_long size (without_at k xs) (λ n inside.
    let at = all n inside in
    elim (cases_eq at.0 k) [
      | inl here ↦ stays k xs n i there
          (get_or_default xs i n 0 there ∙ same ∙ sym (get_or_default xs k n 0 less)
          ∙ ap (λ j. get_or xs j n) (sym here) ∙ at.2) (λ e. omega (arith, e, before))
      | inr other ↦ stays k xs n at.0 at.1 at.2 other
    ]) in
    omega (arith, rest, length-without_at k xs less, few)
