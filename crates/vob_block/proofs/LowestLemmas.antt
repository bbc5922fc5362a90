-- A number and the one before it have the same places but the first true one and those below it.
use Rattle.std.specs.Prelude.{◌==◌, if◌then◌else◌}
use Rattle.std.proofs.Common.{◌≡◌, ◌≢◌, ℕ, zero, suc, ◌+◌, ◌-◌, ◌*◌, ◌/◌, ◌%◌, ◌^◌, ◌<◌, true}
use Rattle.std.proofs.Common.{false, ◌&&◌, eqb, eqb-true, eq-eqb, ℤ, pos, ◌-ℤ◌, unsigned_abs, refl}
use Rattle.std.proofs.Common.{sym, ap, ◌∙◌, subst, inl, inr, arith}
use Rattle.std.proofs.Math.Bool.{and_self, and-false}
use Rattle.std.proofs.Math.IntN.{ -ℤ_one}
use Rattle.std.proofs.Math.Nat.{div-one}
use Rattle.std.proofs.lemmas.Bool.{cases_eq, cases_lt, false≢true, ne_eqb}
use Rattle.std.proofs.lemmas.Nat.{shr-shr, div-mul-add, mod-mul-add, div-add-mod', mod_below, pow_pos}
use Rattle.vob_block.specs.Places.{place, HasPlaces, HasZerosLow}
use Rattle.vob_block.proofs.PlaceLemmas.{place-zero, same_from_places}

-- place 0 is the parity, and the others are those of the half
place-parity : (x : ℕ) → place 0 x ≡ eqb (x % 2) 1
place-parity x = ap (λ q. eqb (q % 2) 1) (div-one x)

place-half : (i x : ℕ) → place (suc i) x ≡ place i (x / 2)
place-half i x =
    let up : 1 + i ≡ suc i = omega arith in
    ap (λ q. eqb (q % 2) 1) (sym (shr-shr x 1 i ∙ ap (λ k. x / 2 ^ k) up))

equal-suc : (i p : ℕ) → (suc i == suc p) ≡ (i == p)
equal-suc i p = elim (cases_eq i p) [
  | inl same ↦ eq-eqb (suc i) (suc p) (ap suc same) ∙ sym (eq-eqb i p same)
  | inr other ↦ ne_eqb (suc i) (suc p) (λ e. other (omega (arith, e))) ∙ sym (ne_eqb i p other)
]

-- one less than an odd number has the same half, and is even
odd_less : (x : ℕ) → x % 2 ≡ 1 → ((x - 1) / 2 ≡ x / 2) × ((x - 1) % 2 ≡ 0)
odd_less x odd =
    let is : x - 1 ≡ x / 2 * 2 + 0 = omega (arith, div-add-mod' x 2, odd) in (
      ap (λ n. n / 2) is ∙ div-mul-add (x / 2) 2 0 (omega arith),
      ap (λ n. n % 2) is ∙ mod-mul-add (x / 2) 2 0 (omega arith),
    )

-- and one less than an even one the half before
even_less : (x : ℕ) → x % 2 ≡ 0 → 0 < x / 2 → (x - 1) / 2 ≡ x / 2 - 1
even_less x even some =
    let is : x - 1 ≡ (x / 2 - 1) * 2 + 1 = omega (arith, div-add-mod' x 2, even, some) in
    ap (λ n. n / 2) is ∙ div-mul-add (x / 2 - 1) 2 1 (omega arith)

even_from_place : (x : ℕ) → place 0 x ≡ false → x % 2 ≡ 0
even_from_place x none =
    let other : x % 2 ≢ 1 =
    λ e. false≢true (sym none ∙ place-parity x ∙ eq-eqb (x % 2) 1 e) in
    omega (arith, other, mod_below x 2 (omega arith))

some_from_place : (p x : ℕ) → place p x ≡ true → 0 < x
some_from_place p zero there = absurd (false≢true (sym (place-zero p) ∙ there))
some_from_place p (suc x) there = omega arith

-- what both have is the number without its first true place p
place-lowest : (p x i : ℕ) → ((j : ℕ) → j < p → place j x ≡ false) → place p x ≡ true
    → (place i x && place i (x - 1)) ≡ (if i == p then false else place i x)
place-lowest zero x zero none first =
    let odd = eqb-true (x % 2) 1 (sym (place-parity x) ∙ first) in
    let gone : place 0 (x - 1) ≡ false =
    place-parity (x - 1) ∙ ap (λ r. eqb r 1) (odd_less x odd).1 in
    ap (λ b. place 0 x && b) gone ∙ and-false (place 0 x)
place-lowest zero x (suc i) none first =
    let odd = eqb-true (x % 2) 1 (sym (place-parity x) ∙ first) in
    let same : place (suc i) (x - 1) ≡ place (suc i) x =
    place-half i (x - 1) ∙ ap (place i) (odd_less x odd).0 ∙ sym (place-half i x) in
    let apart : (suc i == 0) ≡ false = ne_eqb (suc i) 0 (λ e. absurd (omega (arith, e))) in
    ap (λ b. place (suc i) x && b) same ∙ and_self (place (suc i) x)
    ∙ ap (λ b. if b then false else place (suc i) x) (sym apart)
place-lowest (suc p) x zero none first =
    let gone = none 0 (omega arith) in
    let apart : (0 == suc p) ≡ false = ne_eqb 0 (suc p) (λ e. absurd (omega (arith, e))) in
    ap (λ b. b && place 0 (x - 1)) gone ∙ sym gone
    ∙ ap (λ b. if b then false else place 0 x) (sym apart)
place-lowest (suc p) x (suc i) none first =
    let y = x / 2 in
    let even = even_from_place x (none 0 (omega arith)) in
    let there : place p y ≡ true = sym (place-half p x) ∙ first in
    let half = even_less x even (some_from_place p y there) in
    let rest : place (suc i) (x - 1) ≡ place i (y - 1) =
    place-half i (x - 1) ∙ ap (place i) half in
    let lower = place-lowest p y i
    (λ j h. sym (place-half j x) ∙ none (suc j) (omega (arith, h))) there in
    ap (λ b. b && place (suc i) (x - 1)) (place-half i x) ∙ ap (λ b. place i y && b) rest
    ∙ lower ∙ ap (λ b. if i == p then false else b) (sym (place-half i x))
    ∙ ap (λ b. if b then false else place (suc i) x) (sym (equal-suc i p))

-- the block that has the places of both
pub HasPlaces-lowest : (w x y both p : ℕ) → 0 < x → x < 2 ^ w → HasZerosLow w x p → y ≡ x - 1
    → HasPlaces w both (λ i. place i x && place i y)
    → HasPlaces w both (λ i. if i == p then false else place i x)
HasPlaces-lowest w x y both p some within zeros less has = elim (cases_lt p w) [
  | inl inside ↦ record {
    each = λ i h. has.each i h ∙ ap (λ n. place i x && place i n) less
        ∙ place-lowest p x i zeros.zeros (zeros.first inside);
  }
  | inr all ↦ absurd (omega (
    arith,
    some,
    same_from_places w x 0 within (pow_pos w)
        (λ j h. zeros.zeros j (omega (arith, h, all)) ∙ sym (place-zero j)),
  ))
]

less_by_one : (n : ℕ) → n ≢ 0 → pos n -ℤ pos 1 ≡ pos (n - 1)
less_by_one zero some = absurd (some refl)
less_by_one (suc n) some =
    let back : n ≡ suc n - 1 = omega arith in
    -ℤ_one (pos (suc n)) ∙ ap pos back

-- a type whose values have numbers below 2 ^ w, and each such number
module _ {X : Type 0} (w : ℕ) (value : X → ℤ) (number : X → ℕ) (fits : ℤ → Type 0)
    (wrap : ℤ → ℤ) (of_bits : ℕ → X) (shows : (x : X) → value x ≡ pos (number x))
    (back : (n : ℕ) → n < 2 ^ w → number (of_bits n) ≡ n)
    (wraps : (n : ℕ) → n < 2 ^ w → value (of_bits n) ≡ wrap (pos n))
    (wrapped : (x : ℤ) → fits (wrap x))
    (x one : X) (some : number x ≢ 0) (within : number x < 2 ^ w) (is : number one ≡ 1) where
  one_less : value x -ℤ value one ≡ pos (number x - 1)
  one_less = rw (shows x, shows one, is) (less_by_one (number x) some)

  pub one_less-fits : fits (value x -ℤ value one)
  one_less-fits =
      let n = number x - 1 in
      let inside : n < 2 ^ w = omega (arith, within) in
      subst fits (sym (wraps n inside) ∙ shows (of_bits n) ∙ ap pos (back n inside)
      ∙ sym one_less) (wrapped (pos n))

  pub number-one_less : (r : X) → value r ≡ value x -ℤ value one → number r ≡ number x - 1
  number-one_less r e = ap unsigned_abs (sym (shows r) ∙ e ∙ one_less)
