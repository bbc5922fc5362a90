use Rattle.std.proofs.Common.{◌*◌, take}
use Rattle.vob_lines.specs.Spelling.{ArePairs}
use Rattle.vob_lines.proofs.spelling.bytes_of.Given as goal

-- the first pairs are those of the bytes
abbrev pub invariant-loop-k : goal.invariant-loop-k
invariant-loop-k l = ArePairs (take (2 * l.k) l.word) l.bytes.items
