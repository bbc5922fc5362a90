-- The moves that are left.
use Rattle.std.proofs.Common.{length, reverse}
use Rattle.vob_lr.specs.Replays.{IsReplayed}
use Rattle.vob_lr.proofs.tree.replayed.Given as goal

abbrev pub invariant-moves : goal.invariant-moves
invariant-moves l = IsReplayed l.rules l.tokens l.parsed l.symbols l.forest (reverse l.moves.items)

abbrev pub decreases-moves : goal.decreases-moves
decreases-moves l = length l.moves.items
