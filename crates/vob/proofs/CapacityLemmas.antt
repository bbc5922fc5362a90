-- More room in blocks is more room in bits, at a plain width.
use Rattle.std.proofs.Common.{◌≡◌, ℕ, ◌*◌, ◌≤◌, min, arith}
use Rattle.std.proofs.lemmas.Nat.{mul-le}

pub capacity-grows : (w a b most before : ℕ) → min (a * w) most ≡ before → a ≤ b
    → before ≤ min (b * w) most
capacity-grows w a b most before view more =
    let bits : a * w ≤ b * w = mul-le a w b w more (omega arith) in omega (arith, view)
