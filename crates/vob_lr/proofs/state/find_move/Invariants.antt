-- The move lies between two places, if it is there.
use Rattle.std.proofs.Common.{◌-◌}
use Rattle.vob_lr.proofs.MoveLemmas.{IsHalved}
use Rattle.vob_lr.proofs.state.find_move.Given as goal

abbrev pub invariant-halves : goal.invariant-halves
invariant-halves l = IsHalved l.moves l.symbol l.start l.end

abbrev pub decreases-halves : goal.decreases-halves
decreases-halves l = l.end - l.start
