-- How many blocks some bits take, and where a bit stands among them.
use Rattle.std.specs.Int.{div_ceil}
use Rattle.std.proofs.Common.{◌≡◌, ◌≢◌, ℕ, ◌+◌, ◌-◌, ◌*◌, ◌/◌, ◌%◌, ◌<◌, ◌≤◌, sym, ap, ◌∙◌, arith, inl, inr, mod-lt, suc-mul, add-one, le_antisymm}
use Rattle.std.proofs.lemmas.Bool.{cases_lt}
use Rattle.std.proofs.lemmas.Nat.{mul-le, div_below, div-add-mod'}
use Rattle.std.proofs.lemmas.Grind.{div_ceil_times}
use Rattle.vob_block.specs.Packing.{need}

module _ (w : ℕ) (wide : 0 < w) where
  -- n bits find room in the blocks that they need
  pub need_enough : (n : ℕ) → n ≤ need n w * w
  unfolding need
  need_enough n = omega (arith, div-add-mod' (n + (w - 1)) w, mod-lt (n + (w - 1)) wide)

  -- and in no fewer
  pub need_least : (n m : ℕ) → n ≤ m * w → need n w ≤ m
  unfolding need
  need_least n m h =
      let below : n + (w - 1) < (m + 1) * w = grind arith in
      let quotient = div_below (n + (w - 1)) w (m + 1) wide below in
      omega arith

  le_from_products : (a b : ℕ) → a * w < b * w + w → a ≤ b
  le_from_products a b h = elim (cases_lt b a) [
    | inl above ↦
        let more : (b + 1) * w ≤ a * w = mul-le (b + 1) w a w (omega arith) (omega arith) in
        absurd (omega (arith, suc-mul b w, ap (λ k. k * w) (add-one b)))
    | inr fine ↦ fine
  ]

  -- so a count of blocks is the need where it holds n bits, and one block less doesn't
  pub need_is : (n m : ℕ) → n ≤ m * w → m * w < n + w → need n w ≡ m
  need_is n m enough few =
      le_antisymm (need_least n m enough) (le_from_products m (need n w)
      (omega (arith, need_enough n)))

  pub need-zero : need 0 w ≡ 0
  need-zero = need_is 0 0 (omega arith) (omega arith)

  -- more bits need no fewer blocks
  pub need-le-need : (m n : ℕ) → m ≤ n → need m w ≤ need n w
  need-le-need m n h = need_least m (need n w) (omega (arith, need_enough n))

  -- a bit stands in one of the blocks that the bits need
  pub div-lt-need : (n i : ℕ) → i < n → i / w < need n w
  div-lt-need n i h = div_below i w (need n w) wide (omega (arith, need_enough n))

  -- n bits need the block of bit k * w exactly where k * w is below n
  pub lt-need : (n k : ℕ) → k * w < n → k < need n w
  lt-need n k h = elim (cases_lt k (need n w)) [
    | inl fine ↦ fine
    | inr few ↦ absurd (omega (arith, need_enough n, mul-le (need n w) w k w few (omega arith)))
  ]

  pub mul-lt_from_need : (n k : ℕ) → k < need n w → k * w < n
  mul-lt_from_need n k h = elim (cases_lt (k * w) n) [
    | inl fine ↦ fine
    | inr all ↦ absurd (omega (arith, need_least n k all))
  ]

  next-product : (q : ℕ) → (q + 1) * w ≡ q * w + w
  next-product q = ap (λ k. k * w) (add-one q) ∙ suc-mul q w

  -- where the last block is full, or there is none, the next bit needs a block
  pub need_at_full : (n : ℕ) → n % w ≡ 0 → (need n w ≡ n / w) × (need (n + 1) w ≡ n / w + 1)
  need_at_full n full =
      let parts = div-add-mod' n w in
      let next = next-product (n / w) in (
        need_is n (n / w) (omega arith) (omega arith),
        need_is (n + 1) (n / w + 1) (omega arith) (omega arith),
      )

  -- elsewhere it finds room in the last block
  pub need_at_open : (n : ℕ) → n % w ≢ 0 → (need n w ≡ n / w + 1) × (need (n + 1) w ≡ n / w + 1)
  need_at_open n partial =
      let parts = div-add-mod' n w in
      let next = next-product (n / w) in
      let rest = mod-lt n wide in (
        need_is n (n / w + 1) (omega arith) (omega arith),
        need_is (n + 1) (n / w + 1) (omega arith) (omega arith),
      )

  -- what `div_ceil` answers is the need
  pub need-is-div_ceil : (n v : ℕ) → v ≡ w → div_ceil n v ≡ need n w
  need-is-div_ceil n v same =
      let times = div_ceil_times n w wide in
      rw same (sym (need_is n (div_ceil n w) times.0 times.1))
