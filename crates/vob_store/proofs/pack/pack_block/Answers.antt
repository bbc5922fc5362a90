-- The next bit is marked at its place.
use Rattle.std.proofs.Common.{refl}
use Rattle.vob_store.proofs.PackLemmas.{first_more}
use Rattle.vob_store.proofs.pack.pack_block.Goals as goal

pub loop-place-preserved : goal.loop-place-preserved
loop-place-preserved g c =
    let h = c.loop-place.invariant in
    first_more g.T.BitBlock.BITS (g.T.BitBlock.number c.loop-place.block)
    (g.T.BitBlock.number c.bor-block.result) c.loop-place.place
    (g.T.BitBlock.number c.first_place-mark.result) (g.T.BitBlock.number c.up.result)
    c.args.bits.now _ h refl c.first_place-mark.ensures c.bor-block.ensures.within
    c.up.ensures.places c.bor-block.ensures.places
