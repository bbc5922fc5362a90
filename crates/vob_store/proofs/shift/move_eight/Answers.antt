-- Each block is made of the two that hold its bits, which were read first.
use Rattle.std.proofs.Common.{◌+◌, zero-mul, arith, ◌≡◌}
use Rattle.std.proofs.lemmas.List.{length-map, map-set}
use Rattle.vob_store.proofs.CopyLemmas.{AreCopied-nothing, AreCopied-moved_down, number_in_row}
use Rattle.vob_store.proofs.shift.move_eight.Goals as goal

pub loop-j-init : goal.loop-j-init
loop-j-init g c = AreCopied-nothing _ _ _ _ _ (zero-mul g.T.BitBlock.BITS)

pub loop-j-preserved : goal.loop-j-preserved
loop-j-preserved g c =
    let number = g.T.BitBlock.number in
    let own = c.args.own.now in
    let from = c.args.from in
    let j = c.loop-j.j in
    let next : from + 1 + j ≡ from + j + 1 = omega arith in
    let low = number_in_row number own _ from 8 j c.index-low-j.result c.eight_blocks-low.ensures
    c.loop-j-test.true (omega arith) in
    let high = number_in_row number own _ (from + 1) 8 j c.index-high-j.result
    c.eight_blocks-high.ensures c.loop-j-test.true (omega arith) in
    rw map-set (AreCopied-moved_down _ g.met.T.BitBlock.wide_law _ _ c.args.first from
    c.args.places j _ _ _ c.requires.below (omega (arith, length-map c.loop-j.own number)) low
    (rw next at high) c.funnel_down.ensures.places c.loop-j.invariant)
