-- The range is cut to a window. Nothing is in hand at either end, so all is in the unread blocks.
use Rattle.std.proofs.Common.{length, ap, arith}
use Rattle.vob_block.proofs.NeedLemmas.{need-le-need}
use Rattle.vob_block.proofs.PackingLemmas.{length-unpacking}
use Rattle.vob_walk.proofs.CursorLemmas.{rest-fresh, IsWhole-fresh}
use Rattle.vob_walk.proofs.WindowLemmas.{IsRangeOf-own}
use Rattle.vob_walk.proofs.cursor.Cursor.over.Goals as goal

pub over-requires-clause-enough : goal.over-requires-clause-enough
over-requires-clause-enough g c =
    let cut = c.cut_range-start in
    omega (
      arith,
      need-le-need g.T.BitBlock.BITS g.met.T.BitBlock.wide_law cut.result.1 c.args.len
          cut.ensures.inside,
    )

pub invariant_of-result : goal.invariant_of-result
invariant_of-result g c =
    omega (arith, ap length (rest-fresh c.none.ensures c.none-2.ensures c.over.result.rest))

pub returns-clause-whole : goal.returns-clause-whole
returns-clause-whole g c = λ known.
    let range = c.cut_range-start.ensures.window known in
    IsWhole-fresh c.none.ensures c.none-2.ensures c.over.result (length-unpacking c.args.len _ _)
    (c.over.ensures.rest _ _ _ range) (c.over.ensures.left _ _ _ range)

pub returns-clause-some : goal.returns-clause-some
returns-clause-some g c =
    let cut = c.cut_range-start in
    let range = IsRangeOf-own cut.result.0 cut.result.1 c.args.len cut.ensures.ordered
    cut.ensures.inside in (
      cut.result.0,
      cut.result.1,
      cut.ensures.ordered,
      cut.ensures.inside,
      IsWhole-fresh c.none.ensures c.none-2.ensures c.over.result (length-unpacking c.args.len _ _)
          (c.over.ensures.rest _ _ _ range) (c.over.ensures.left _ _ _ range),
    )
