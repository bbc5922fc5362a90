-- Lists of all things with a property, each once and in order.
use Rattle.std.specs.Prelude.{◌↔◌, ℕ, ◌<◌, List, AllPairs, Contains}

-- those of which P holds, in an order
pub record AreInOrder {X : Type 0} (Before : X → X → Type 0) (P : X → Type 0) (xs : List X)
    : Type 0 where
  pub each : (x : X) → Contains xs x ↔ P x
  pub rise : AllPairs Before xs

-- numbers, the lower ones first
abbrev pub AreThose : (ℕ → Type 0) → List ℕ → Type 0
AreThose P numbers = AreInOrder (λ n m. n < m) P numbers
