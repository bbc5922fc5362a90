-- The sets at the places so far had their turn.
use Rattle.std.proofs.Common.{◌≡◌, ◌≤◌, ◌-◌, length}
use Rattle.vob_flow.specs.Draws.{mask_of}
use Rattle.vob_flow.specs.Passes.{HadTurns}
use Rattle.vob_flow.specs.Schedules.{place_of}
use Rattle.vob_flow.proofs.passes.pass.Given as goal

abbrev pub invariant-looks : goal.invariant-looks
invariant-looks l = record {
  turns : HadTurns (place_of l.schedule.places.items) l.schedule.order.items l.graph (mask_of l.masks)
      l.fn.sets.rows l.fn.pending.bits l.sets.rows l.pending.bits l.grew l.from;
  low : l.from ≤ length l.schedule.order.items;
  columns : l.sets.columns ≡ l.fn.sets.columns;
}

abbrev pub decreases-looks : goal.decreases-looks
decreases-looks l = length l.schedule.order.items - l.from
