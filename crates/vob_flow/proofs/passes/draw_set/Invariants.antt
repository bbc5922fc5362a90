-- The set got what it draws from the sets so far.
use Rattle.std.proofs.Common.{◌≡◌, take}
use Rattle.vob_flow.specs.Draws.{mask_of}
use Rattle.vob_flow.specs.Gains.{HasGained, IsDrawnOf}
use Rattle.vob_flow.proofs.passes.draw_set.Given as goal

abbrev pub invariant-loop-source : goal.invariant-loop-source
invariant-loop-source l = HasGained l.fn.sets.rows l.set
    (IsDrawnOf l.fn.sets.rows (mask_of l.masks l.set) (take l.source-index l.from)) l.sets.rows l.grew
    × (l.sets.columns ≡ l.fn.sets.columns)
