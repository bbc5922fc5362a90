-- How a parser ends.
use Rattle.std.specs.Prelude.{◌≡◌, ℕ, ◌≤◌, List, length}
use Rattle.vob_lr.specs.Stops.{AcceptsBy, IsSound, IsTooLong, IsUnexpected}
use Rattle.vob_lr.specs.Tables.{TableView}

-- a parser ends in one way: tokens that it accepts by some rules it accepts by no others, it takes each of them,
-- and it makes no more reductions than those
abbrev pub EndsAreOne : Type 0
EndsAreOne = (table : TableView) → IsSound table → (tokens rules : List ℕ) →
    AcceptsBy table tokens rules →
    ((others : List ℕ) → AcceptsBy table tokens others → others ≡ rules)
    × ((n : ℕ) → ¬ IsUnexpected table tokens n)
    × ((most : ℕ) → length rules ≤ most → ¬ IsTooLong table tokens most)
