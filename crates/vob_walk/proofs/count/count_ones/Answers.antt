-- The parts of the window in its first and its last block, and the blocks between them whole.
use Rattle.std.proofs.Common.{◌∙◌, map, sym, arith}
use Rattle.vob_walk.proofs.CountLemmas.{ones-le, ones-nothing, ones-alone, ones-parts, blocks_met-own}
use Rattle.vob_walk.proofs.count.count_ones.Goals as goal

pub returns-then-first-end-clause-ones : goal.returns-then-first-end-clause-ones
returns-then-first-end-clause-ones g c = sym (ones-nothing _
    g.met.T.BitBlock.wide_law c.blocks_of-first.ensures c.requires.order _ c.if-first-end.true)

pub returns-then-first-end-clause-reads : goal.returns-then-first-end-clause-reads
returns-then-first-end-clause-reads g c =
    let met = blocks_met-own _ g.met.T.BitBlock.wide_law c.blocks_of-first.ensures c.requires.order in
    omega arith

pub returns-then-first-last-clause-ones : goal.returns-then-first-last-clause-ones
returns-then-first-last-clause-ones g c =
    c.ones_in_block-head.ensures.ones ∙ ones-alone _ g.met.T.BitBlock.wide_law
    c.blocks_of-first.ensures c.requires.order _ c.if-first-end.false c.if-first-last.true

pub returns-then-first-last-clause-reads : goal.returns-then-first-last-clause-reads
returns-then-first-last-clause-reads g c =
    let met = blocks_met-own _ g.met.T.BitBlock.wide_law c.blocks_of-first.ensures c.requires.order in
    omega arith

pub returns-clause-ones : goal.returns-clause-ones
returns-clause-ones g c =
    let parts = ones-parts g.T.BitBlock.BITS g.met.T.BitBlock.wide_law
    c.blocks_of-first.ensures c.requires.order
    (map g.T.BitBlock.number (g.S.Source.reading c.args.blocks.now).items)
    c.if-first-end.false c.if-first-last.false in
    let head = c.ones_in_block-head.ensures in
    let middle = rw head.items at c.ones_in_blocks-middle.ensures.ones in
    let tail = rw (c.ones_in_blocks-middle.ensures.items, head.items) at
    c.ones_in_block-tail.ensures.ones in
    omega arith

pub overflow_add-result : goal.overflow_add-result
overflow_add-result g c =
    let few = ones-le g.T.BitBlock.BITS
    (map g.T.BitBlock.number (g.S.Source.reading c.args.blocks.now).items) in
    omega (arith, returns-clause-ones g c, few c.args.start c.args.stop)

pub overflow_add-result-2 : goal.overflow_add-result-2
overflow_add-result-2 g c =
    let few = ones-le g.T.BitBlock.BITS
    (map g.T.BitBlock.number (g.S.Source.reading c.args.blocks.now).items) in
    omega (arith, returns-clause-ones g c, few c.args.start c.args.stop)

pub returns-clause-reads : goal.returns-clause-reads
returns-clause-reads g c =
    let met = blocks_met-own _ g.met.T.BitBlock.wide_law c.blocks_of-first.ensures c.requires.order in
    omega arith
