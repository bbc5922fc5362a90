-- The pairs of groups of words so far exchanged.
use Rattle.vob_matrix.specs.Tiles.{IsStage}
use Rattle.vob_matrix.proofs.tiles.exchange_all.Given as goal

abbrev pub invariant-loop-pair : goal.invariant-loop-pair
invariant-loop-pair l = IsStage l.group l.pairs l.pair l.fn.words l.words
