use Rattle.vob_store.proofs.PackLemmas.{HasFirst}
use Rattle.vob_store.proofs.pack.pack_block.Given as goal

abbrev pub invariant-loop-place : goal.invariant-loop-place
invariant-loop-place g l = HasFirst g.T.BitBlock.BITS (g.T.BitBlock.number l.block) l.bits l.place
