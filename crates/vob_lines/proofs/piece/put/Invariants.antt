use Rattle.std.proofs.Common.{length}
use Rattle.vob_lines.specs.Written.{AppendsBut}
use Rattle.vob_lines.proofs.piece.put.Given as goal

-- the text was written but for the rest
abbrev pub invariant-loop-rest : goal.invariant-loop-rest
invariant-loop-rest g l =
    AppendsBut (g.W.Write.contents l.fn.output) (g.W.Write.contents l.output) l.text l.rest

-- each call takes a byte at least
abbrev pub decreases-loop-rest : goal.decreases-loop-rest
decreases-loop-rest g l = length l.rest
