-- No room begins below the place where the search goes on.
use Rattle.std.proofs.Common.{ℕ, ◌-◌, ◌≤◌, length}
use Rattle.vob.specs.Room.{IsRoom}
use Rattle.vob_slots.proofs.slots.room_from.Given as goal

abbrev pub invariant-runs : goal.invariant-runs
invariant-runs l = (j : ℕ) → IsRoom l.count l.taken.bits j → l.at ≤ j

abbrev pub decreases-runs : goal.decreases-runs
decreases-runs l = length l.taken.bits - l.at
