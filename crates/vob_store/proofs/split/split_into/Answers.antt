-- From the first place on, the blocks are as they were.
use Rattle.std.proofs.Common.{ap, map, length, sym, zero-add}
use Rattle.std.proofs.lemmas.List.{take-map}
use Rattle.vob_block.specs.Packing.{bit_at}
use Rattle.vob_store.proofs.BuildLemmas.{AreBuilt-take, AreBuilt-same}
use Rattle.vob_store.proofs.split.split_into.Goals as goal

pub returns-then-from-eq0 : goal.returns-then-from-eq0
returns-then-from-eq0 g c =
    let w = g.T.BitBlock.BITS in
    let number = g.T.BitBlock.number in
    let xs = map number c.args.blocks.now in
    rw (c.if-from-eq0.true, c.copy_from_slice.ensures.after, ← take-map) (AreBuilt-same
    (AreBuilt-take w g.met.T.BitBlock.wide_law (length c.args.rest.now) xs)
    (λ i. ap (bit_at xs w) (sym (zero-add i))))
