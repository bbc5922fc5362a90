use Rattle.std.proofs.Common.{length}
use Rattle.vob_lines.proofs.WordsLemmas.{ReadNumbers}
use Rattle.vob_lines.proofs.command.Words.numbers.Given as goal

-- the words so far are the values
abbrev pub invariant-loop-self : goal.invariant-loop-self
invariant-loop-self l = ReadNumbers l.fn.self l.self l.values.items

abbrev pub decreases-loop-self : goal.decreases-loop-self
decreases-loop-self l = length l.self
