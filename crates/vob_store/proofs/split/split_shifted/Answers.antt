-- Each block is made of the two that hold its bits.
use Rattle.std.proofs.Common.{◌+◌, ◌-◌, length, arith}
use Rattle.std.proofs.lemmas.List.{length-map, map-set}
use Rattle.vob_store.proofs.BuildLemmas.{AreBuilt-none, AreBuilt-upto, number_indexed}
use Rattle.vob_store.proofs.FunnelLemmas.{AreBuilt-funnel}
use Rattle.vob_store.proofs.split.split_shifted.Goals as goal

pub loop-k-init : goal.loop-k-init
loop-k-init g c = AreBuilt-none

pub loop-k-preserved : goal.loop-k-preserved
loop-k-preserved g c =
    let number = g.T.BitBlock.number in
    let blocks = c.args.blocks.now in
    let low = number_indexed number blocks c.loop-k.k c.index-blocks-k.result (omega arith)
    c.index-blocks-k.is in
    let high = number_indexed number blocks (c.loop-k.k + 1) c.index-blocks-k-in-loop-k.result
    (omega arith) c.index-blocks-k-in-loop-k.is in
    rw map-set (AreBuilt-funnel _ g.met.T.BitBlock.wide_law _ _ _ _ _ _ _ c.requires.below
    c.loop-k.invariant (omega (arith, length-map c.loop-k.rest number, c.loop-k.auto.rest)) low high
    c.funnel_down.ensures.places)

pub returns : goal.returns
returns g c =
    let number = g.T.BitBlock.number in
    let last = length c.args.rest.now - 1 in
    let low = number_indexed number c.args.blocks.now last c.index-blocks-last.result (omega arith)
    c.index-blocks-last.is in
    rw map-set (AreBuilt-upto _ (AreBuilt-funnel _ g.met.T.BitBlock.wide_law _ _ _ _ _ _ _
    c.requires.below (AreBuilt-upto _ c.loop-k.invariant (omega arith))
    (omega (arith, length-map c.loop-k.rest number, c.loop-k.auto.rest)) low c.block_or_zero.ensures
    c.funnel_down-2.ensures.places) (omega arith))
