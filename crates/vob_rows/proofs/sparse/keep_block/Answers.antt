-- A block of zeros has no set bit.
use Rattle.vob_rows.proofs.SparseLemmas.{kept_zero}
use Rattle.vob_rows.proofs.sparse.keep_block.Goals as goal

pub returns-else-block-ne0 : goal.returns-else-block-ne0
returns-else-block-ne0 c = rw c.if-block-ne0.false (kept_zero c.args.kept.now.items c.args.from)
