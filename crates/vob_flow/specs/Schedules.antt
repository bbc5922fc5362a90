-- How sets are looked at. No public clause cites this page.
use Rattle.std.specs.Prelude.{◌≡◌, ℕ, ◌<◌, List, length, slice_index_or, All}
use Rattle.vob_rows.specs.Graph.{IsReversed}
use Rattle.vob_flow.specs.Turns.{IsOrder}
use Rattle.vob_flow.specs.declared.schedule.Schedule.{Schedule}

-- the place of set k
abbrev pub place_of : List ℕ → ℕ → ℕ
place_of places k = slice_index_or places k 0

-- the place of each set in an order
pub record ArePlaces (count : ℕ) (order places : List ℕ) : Type 0 where
  pub count_of : length places ≡ count
  pub inside : All (λ p. p < length order) places
  pub named : (j : ℕ) → j < length order → place_of places (slice_index_or order j 0) ≡ j

-- an order of the nodes of a graph, their places, and the edges that lead back
pub record IsSchedule (next : List (List ℕ)) (s : Schedule) : Type 0 where
  pub order : IsOrder (length next) s.order.items
  pub places : ArePlaces (length next) s.order.items s.places.items
  pub users : IsReversed next s.users
