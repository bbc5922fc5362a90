-- Among the fours so far none was found.
use Rattle.std.proofs.Common.{◌*◌, None}
use Rattle.vob_walk.specs.Skip.{from_end, Steps}
use Rattle.vob_walk.proofs.skip.first_of_fours.Given as goal

abbrev pub invariant-loop-four : goal.invariant-loop-four
invariant-loop-four g l = Steps g.T.BitBlock.number l.fn.skip
    (from_end l.fn.span.side l.fn.span.start l.fn.span.end) (g.S.Source.reading l.fn.blocks)
    (g.S.Source.reading l.blocks) 0 (4 * l.four) None
