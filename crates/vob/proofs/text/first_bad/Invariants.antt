-- The bytes so far are digits.
use Rattle.std.proofs.Common.{All, take}
use Rattle.vob_block.specs.Digits.{IsDigit}
use Rattle.vob.proofs.text.first_bad.Given as goal

abbrev pub invariant-loop-index : goal.invariant-loop-index
invariant-loop-index l = All IsDigit (take l.index l.text)
