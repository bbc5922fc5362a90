-- A row has the bits that are read, and they are the places of its word.
use Rattle.std.proofs.Common.{sym, arith}
use Rattle.vob_matrix.proofs.TurnLemmas.{IsLoaded-more}
use Rattle.vob_matrix.proofs.tiles.load_words.Goals as goal

pub loop-k-preserved : goal.loop-k-preserved
loop-k-preserved c =
    IsLoaded-more _ c.args.first c.loop-k.k c.args.start c.args.end _ c.loop-k.words _ (omega arith)
    (sym c.row.ensures.bits) c.load.ensures.each c.loop-k.invariant
