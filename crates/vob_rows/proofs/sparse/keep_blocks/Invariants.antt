-- The columns of the blocks so far are kept.
use Rattle.vob_rows.proofs.SparseLemmas.{AreKept}
use Rattle.vob_rows.proofs.sparse.keep_blocks.Given as goal

abbrev pub invariant-loop-k : goal.invariant-loop-k
invariant-loop-k l = AreKept l.from l.row l.fn.kept.items l.kept.items l.k
