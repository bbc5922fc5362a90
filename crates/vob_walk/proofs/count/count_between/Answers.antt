-- The unread blocks are cut to the window, and what is unset there is what isn't set.
use Rattle.std.proofs.Common.{◌∙◌, map, sym, arith}
use Rattle.vob_block.proofs.NeedLemmas.{need_least}
use Rattle.vob_walk.proofs.CountLemmas.{ones-le, length-unread-set, length-unread-unset}
use Rattle.vob_walk.proofs.count.count_between.Goals as goal

pub count_ones-ones-requires-clause-enough : goal.count_ones-ones-requires-clause-enough
count_ones-ones-requires-clause-enough g c =
    let w = g.T.BitBlock.BITS in
    let product = rw c.BITS.ensures at c.saturating_mul.ensures in
    let few = need_least w g.met.T.BitBlock.wide_law c.min-below.result c.args.end (omega arith) in
    omega arith

pub overflow_sub-result-else-window : goal.overflow_sub-result-else-window
overflow_sub-result-else-window g c =
    omega (
      arith,
      ones-le g.T.BitBlock.BITS
          (map g.T.BitBlock.number (g.S.Source.reading c.args.blocks.now).items)
          c.min-from.result c.min-below.result,
    )

pub returns-then-window : goal.returns-then-window
returns-then-window g c =
    let last = rw c.BITS.ensures at c.saturating_mul.ensures in
    let first = rw c.BITS-2.ensures at c.saturating_mul-2.ensures in
    c.count_ones-ones.ensures.ones ∙ sym (length-unread-set g.T.BitBlock.BITS _ _ _ _ _ _ _ _
    c.requires.order (omega arith) (omega arith) c.if-window.true)

pub returns-else-window : goal.returns-else-window
returns-else-window g c =
    let last = rw c.BITS.ensures at c.saturating_mul.ensures in
    let first = rw c.BITS-2.ensures at c.saturating_mul-2.ensures in
    omega (
      arith,
      length-unread-unset g.T.BitBlock.BITS
          (map g.T.BitBlock.number (g.S.Source.reading c.args.blocks.now).items)
          c.args.window.value c.args.window.start c.args.window.stop c.args.next c.args.end
          c.min-from.result c.min-below.result c.requires.order (omega arith) (omega arith)
          c.if-window.false,
    )
