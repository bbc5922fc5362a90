-- The window of the range, and the blocks that it meets.
use Rattle.std.proofs.Common.{map, arith}
use Rattle.std.proofs.lemmas.List.{length-map}
use Rattle.vob_walk.proofs.WindowLemmas.{length-unread-le}
use Rattle.vob_walk.proofs.CursorLemmas.{unread-window, blocks_met-blocks}
use Rattle.vob_walk.proofs.scan.Unread.over.Goals as goal

pub invariant_of-result : goal.invariant_of-result
invariant_of-result g c =
    let spans = c.blocks_of-next.ensures in
    record {
      order = spans.order;
      count = omega (
        arith,
        spans.count,
        c.requires.enough,
        length-map (g.S.Source.reading c.args.blocks).items g.T.BitBlock.number,
      );
      below = spans.below;
    }

pub returns-clause-rest : goal.returns-clause-rest
returns-clause-rest g c = λ low high len range.
    unread-window _ g.met.T.BitBlock.wide_law range
    c.blocks_of-next.ensures
    (map g.T.BitBlock.number (g.S.Source.reading c.args.blocks).items) c.args.value

pub returns-clause-left : goal.returns-clause-left
returns-clause-left g c = λ low high len range.
    blocks_met-blocks _ g.met.T.BitBlock.wide_law range
    c.blocks_of-next.ensures

pub returns-clause-countable : goal.returns-clause-countable
returns-clause-countable g c =
    let spans = c.blocks_of-next.result in
    omega (
      arith,
      length-unread-le g.T.BitBlock.BITS
          (map g.T.BitBlock.number (g.S.Source.reading c.args.blocks).items)
          c.args.value c.args.start c.args.stop spans.0 spans.1,
    )
