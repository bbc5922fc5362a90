use Rattle.std.proofs.Common.{map, take, ◌++◌}
use Rattle.vob_lines.specs.Spelling.{digit}
use Rattle.vob_lines.specs.Written.{AppendsBut}
use Rattle.vob_lines.proofs.text.add_digits.Given as goal

-- a digit was added for each bit so far
abbrev pub invariant-loop-bit : goal.invariant-loop-bit
invariant-loop-bit g l =
    AppendsBut (g.W.Write.contents l.fn.output) (g.W.Write.contents l.output)
    (l.fn.piece ++ map digit (take l.bit-index l.bits)) l.piece
