-- Among the blocks so far none was found.
use Rattle.std.proofs.Common.{None}
use Rattle.vob_walk.specs.Skip.{from_end, Steps}
use Rattle.vob_walk.proofs.skip.first_of_rest.Given as goal

abbrev pub invariant-loop-i : goal.invariant-loop-i
invariant-loop-i g l = Steps g.T.BitBlock.number l.fn.skip
    (from_end l.fn.span.side l.fn.span.start l.fn.span.end) (g.S.Source.reading l.fn.blocks)
    (g.S.Source.reading l.blocks) l.fn.from l.i None
