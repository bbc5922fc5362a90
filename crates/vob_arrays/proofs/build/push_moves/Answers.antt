-- The entries of one move more.
use Rattle.std.proofs.Common.{arith}
use Rattle.vob_arrays.proofs.MoveLemmas.{moves_more}
use Rattle.vob_arrays.proofs.build.push_moves.Goals as goal

pub loop-own-preserved : goal.loop-own-preserved
loop-own-preserved c =
    moves_more c.args.terminals c.args.moves.now c.loop-own.own-index _ (omega arith) c.loop-own.invariant
    c.in_ok-push_move.ensures
