-- The sets are on the way to the least ones, and each pass added to them.
use Rattle.std.proofs.Common.{◌≡◌, ◌+◌, ◌-◌, ◌*◌, ◌≤◌, length}
use Rattle.vob.specs.Vobs.{total_count}
use Rattle.vob_flow.specs.Turns.{ChangeInPasses}
use Rattle.vob_flow.specs.Draws.{IsTurn, mask_of}
use Rattle.vob_flow.specs.Passes.{AreMore, AreUnderway}
use Rattle.vob_flow.specs.Schedules.{place_of}
use Rattle.vob_flow.proofs.passes.settle.Given as goal

abbrev pub invariant-passes : goal.invariant-passes
invariant-passes l =
    record {
      len : length l.pending.bits ≡ length l.schedule.order.items;
      sets_more : AreMore l.fn.sets.rows l.sets.rows;
      underway : AreUnderway (place_of l.schedule.places.items) l.graph (mask_of l.masks) l.fn.sets.rows
          l.sets.rows l.pending.bits;
      most : l.passes + total_count l.fn.sets.rows ≤ 1 + total_count l.sets.rows;
      one_more : 1 ≤ l.passes;
      change : ChangeInPasses (IsTurn l.graph (mask_of l.masks)) l.schedule.order.items l.fn.sets.rows
          (l.passes - 1) l.sets.rows;
      columns : l.sets.columns ≡ l.fn.sets.columns;
      one_pass : l.passes ≡ 1 → l.sets.rows ≡ l.fn.sets.rows;
    }

abbrev pub decreases-passes : goal.decreases-passes
decreases-passes l =
    length l.fn.sets.rows * l.fn.sets.columns - total_count l.sets.rows
