-- What is in some of many sets, node by node.
use Rattle.std.specs.Prelude.{◌≡◌, ◌↔◌, ℕ, Bool, List, [], length, slice_index_or}
use Rattle.vob_flow.specs.Draws.{IsIn, IsInSome}

-- beside each node what is in some of the sets that its edges lead to
pub record AreGathered (next : List (List ℕ)) (sets sums : List (List Bool)) : Type 0 where
  pub count : length sums ≡ length next
  pub each : (n v : ℕ) → IsIn sums n v ↔ IsInSome sets (slice_index_or next n []) v
