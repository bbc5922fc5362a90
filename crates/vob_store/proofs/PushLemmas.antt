-- One bit more behind canonical storage, at a plain width.
use Rattle.std.proofs.Common.{◌≡◌, ◌≢◌, ℕ, ◌+◌, zero, suc, ◌*◌, ◌/◌, ◌%◌, ◌^◌, ◌<◌, ◌≤◌, Bool}
use Rattle.std.proofs.Common.{true, false, ◌&&◌, ◌||◌, cond, List, [], ◌∷◌, ◌++◌, length, eqb}
use Rattle.std.proofs.Common.{sym, ap, ◌∙◌, subst, arith, inl, inr, div-add-mod'}
use Rattle.std.proofs.lemmas.Bool.{cases_order, cases_eq, eq-eqb, ne_eqb}
use Rattle.std.proofs.lemmas.List.{get_or_past, get_or_push, get_or_append_left, length_push}
use Rattle.std.proofs.Math.Bool.{or-false, and-false, and-true}
use Rattle.std.proofs.lemmas.Nat.{mul-le, pow_pos, pow_below}
use Rattle.vob_block.specs.Places.{place, HasPlaces}
use Rattle.vob_block.specs.Packing.{item, need, IsCanonical, Stores}
use Rattle.vob_block.proofs.NeedLemmas.{need_at_full}
use Rattle.vob_store.proofs.AppendLemmas.{Stores-block}
use Rattle.vob_store.proofs.PackLemmas.{place-first}

first-lt : (v : Bool) (w : ℕ) → 0 < w → cond v 1 0 < 2 ^ w
first-lt true w h = pow_below 0 w h
first-lt false w h = pow_pos w

-- two bits of one block are the same where their places are
pub eqb-places : (w i n : ℕ) → i / w ≡ n / w → eqb i n ≡ eqb (i % w) (n % w)
eqb-places w i n block = elim (cases_eq (i % w) (n % w)) [
  | inl same ↦
      let whole : i ≡ n = sym (div-add-mod' i w) ∙ ap (λ q. q * w + i % w) block
      ∙ ap (λ r. n / w * w + r) same ∙ div-add-mod' n w in
      eq-eqb i n whole ∙ sym (eq-eqb (i % w) (n % w) same)
  | inr other ↦ ne_eqb i n (λ e. other (ap (λ k. k % w) e)) ∙ sym (ne_eqb (i % w) (n % w) other)
]

pub eqb-blocks : (w i n : ℕ) → i / w ≢ n / w → eqb i n ≡ false
eqb-blocks w i n apart = ne_eqb i n (λ e. apart (ap (λ k. k / w) e))

-- the bits with one more behind them
pub item-push : (bits : List Bool) (n : ℕ) (v : Bool) (i : ℕ) → length bits ≡ n
    → item (bits ++ v ∷ []) i ≡ (item bits i || (v && eqb i n))
item-push bits n v i e = elim (cases_order i n) [
  | inl same ↦
      get_or_push bits v false i (e ∙ sym same)
      ∙ sym (ap (λ b. item bits i || (v && b)) (eq-eqb i n same)
      ∙ ap (λ b. b || (v && true)) (get_or_past bits i false (omega arith)) ∙ and-true v)
  | inr other ↦ elim other [
    | inl below ↦
        get_or_append_left bits (v ∷ []) false i (omega arith)
        ∙ sym (ap (λ b. item bits i || (v && b)) (ne_eqb i n (λ same. absurd (omega arith)))
        ∙ ap (λ b. item bits i || b) (and-false v) ∙ or-false (item bits i))
    | inr above ↦
        get_or_past (bits ++ v ∷ []) i false (omega (arith, length_push bits v))
        ∙ sym (ap (λ b. item bits i || (v && b)) (ne_eqb i n (λ same. absurd (omega arith)))
        ∙ ap (λ b. item bits i || b) (and-false v) ∙ or-false (item bits i)
        ∙ get_or_past bits i false (omega arith))
  ]
]

-- a block of one bit
pub HasPlaces-bit : (w : ℕ) (v : Bool) (y : ℕ) → y ≡ cond v 1 0 → HasPlaces w y (item (v ∷ []))
HasPlaces-bit w v y is = record { each = λ j _. ap (place j) is ∙ place-first v j ∙ first j }
  where
    first : (j : ℕ) → (v && eqb j 0) ≡ item (v ∷ []) j
    first zero = and-true v
    first (suc j) = ap (λ b. v && b) (ne_eqb (suc j) 0 (λ e. absurd (omega arith))) ∙ and-false v

pub Stores-bit : (w : ℕ) → 0 < w → (v : Bool) (y : ℕ) → y ≡ cond v 1 0
    → Stores w 1 (y ∷ []) (v ∷ [])
Stores-bit w wide v y is = Stores-block w wide y (v ∷ []) (omega arith) wide
    (subst (λ (x : ℕ). x < 2 ^ w) (sym is) (first-lt v w wide)) (HasPlaces-bit w v y is)

module _ (w : ℕ) (wide : 0 < w) (n : ℕ) (xs : List ℕ) (h : IsCanonical n xs w) where
  -- a vector that is full, and whose last block is, has no room and needs a block
  pub full_is_needed : (capacity : ℕ) → n % w ≡ 0 → capacity ≤ length xs → (capacity * w ≤ n)
      × (need n w < need (n + 1) w)
  full_is_needed capacity full held =
      let needs = need_at_full w wide n full in
      let few : capacity * w ≤ n / w * w = mul-le capacity w (n / w) w
      (omega (arith, h.count, needs.0)) (omega arith) in
      (omega (arith, div-add-mod' n w), omega (arith, needs.0, needs.1))
