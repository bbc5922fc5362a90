-- The sets so far have their places.
use Rattle.std.proofs.Common.{◌≡◌, ◌<◌, ℕ, get_or, length}
use Rattle.vob_flow.specs.Schedules.{place_of}
use Rattle.vob_flow.proofs.schedule.places_of.Given as goal

abbrev pub invariant-loop-at : goal.invariant-loop-at
invariant-loop-at l = record {
  count : length l.places.items ≡ l.count;
  named : (j : ℕ) → j < l.at → place_of l.places.items (get_or l.order j 0) ≡ j;
}
