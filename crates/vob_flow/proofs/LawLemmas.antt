-- What comes to a set, in every solution.
use Rattle.std.proofs.Common.{◌≡◌, ℕ, ◌<◌, Bool, inl, inr, List, length, Some, slice_get, arith}
use Rattle.std.proofs.lemmas.Option.{slice_get_cases}
use Rattle.vob_flow.specs.Draws.{IsIn, Comes, IsSolution}
use Rattle.vob_flow.specs.Draws.Comes.{starts_in, drawn}

-- an element that is there
pub element_at : {X : Type 0} (xs : List X) (n : ℕ) → n < length xs →
    (x : X) × (slice_get xs n ≡ Some x)
element_at xs n less = elim (slice_get_cases xs n).1 [
  | inl inside ↦ (inside.0, inside.2)
  | inr past ↦ absurd (omega (arith, past.0))
]

module _ (next : List (List ℕ)) (mask : ℕ → ℕ → Bool) (starts others : List (List Bool))
    (s : IsSolution next mask starts others) where
  pub within_solution : {n v : ℕ} → Comes next mask starts n v → IsIn others n v
  within_solution {n} {v} (starts_in e) = (s.meets n v).1 (inl e)
  within_solution {n} {v} (drawn keeps (k, less, e) c) =
      (s.meets n v).1 (inr (keeps, (k, _, less, e, within_solution c)))
