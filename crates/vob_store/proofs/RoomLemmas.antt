-- Room for bits in blocks, at a plain width.
use Rattle.std.specs.Int.{div_ceil}
use Rattle.std.proofs.Common.{◌≡◌, ℕ, ◌-◌, ◌*◌, ◌^◌, ◌<◌, ◌≤◌, min, arith, ◌+◌, mod-lt, div-add-mod', add-mul}
use Rattle.std.proofs.lemmas.Nat.{mul-le}
use Rattle.std.proofs.lemmas.Grind.{div_ceil_times}
use Rattle.vob_block.specs.Packing.{need}
use Rattle.vob_block.proofs.NeedLemmas.{need_is, need_enough, need_least, mul-lt_from_need}

module _ (w : ℕ) (wide : 0 < w) where
  -- blocks that hold n bits have room for them
  pub room_from_need : (n blocks : ℕ) → need n w ≤ blocks → n < 2 ^ 64
      → n ≤ min (blocks * w) (2 ^ 64 - 1)
  room_from_need n blocks h fits =
      let held : need n w * w ≤ blocks * w = mul-le (need n w) w blocks w h (omega arith) in
      omega (arith, need_enough w wide n)

  -- where there is room for n bits, there are the blocks that they need
  pub need_from_room : (n blocks : ℕ) → n ≤ min (blocks * w) (2 ^ 64 - 1) → need n w ≤ blocks
  need_from_room n blocks h = need_least w wide n blocks (omega arith)

  -- and elsewhere there isn't
  pub no_room : (n blocks : ℕ) → blocks < need n w → min (blocks * w) (2 ^ 64 - 1) < n
  no_room n blocks h = let short = mul-lt_from_need w wide n blocks h in omega (arith, short)

  -- the blocks that bits need have less than one block of room behind them
  pub need-lt : (n : ℕ) → need n w * w < n + w
  unfolding need
  need-lt n = omega (arith, div-add-mod' (n + (w - 1)) w, mod-lt (n + (w - 1)) wide)

  -- bits behind k whole blocks need as many blocks more
  pub need-add : (k n : ℕ) → need (k * w + n) w ≡ k + need n w
  need-add k n =
      let sum = add-mul k (need n w) w in
      need_is w wide (k * w + n) (k + need n w) (omega (arith, need_enough w wide n))
      (omega (arith, need-lt n))

  pub need-mul : (k : ℕ) → need (k * w) w ≡ k
  need-mul k = need_is w wide (k * w) k (omega arith) (omega arith)

-- the bits of n bytes need a block of 64 for each eight bytes, rounded up
pub need_in_bytes : (n bits : ℕ) → bits ≡ 8 * n → need bits 64 ≡ div_ceil n 8
need_in_bytes n bits is =
    let times = div_ceil_times n 8 (omega arith) in
    need_is 64 (omega arith) bits (div_ceil n 8) (omega (arith, times.0)) (omega (arith, times.1))
