-- The words so far were read.
use Rattle.std.proofs.Common.{◌≡◌, Some, map, take}
use Rattle.files_condition.specs.Reading.{run, start}
use Rattle.files_condition.specs.States.{state_of}
use Rattle.files_condition.specs.Words.{token_of}
use Rattle.files_condition.proofs.condition.read_condition.Given as goal

abbrev pub invariant-words : goal.invariant-words
invariant-words l = run start (map token_of (take l.word-index l.word-items)) ≡ Some (state_of l.next l.reader)
