-- The tokens so far were read.
use Rattle.std.proofs.Common.{◌≡◌, Some, map, take}
use Rattle.files_dot.specs.Graphs.{words_of}
use Rattle.files_dot.specs.Reading.{run, start}
use Rattle.files_dot.specs.States.{state_of}
use Rattle.files_dot.specs.Tokens.{token_of}
use Rattle.files_dot.proofs.graph.read_dot.Given as goal

abbrev pub invariant-tokens : goal.invariant-tokens
invariant-tokens l =
    run start (words_of (map token_of (take l.token-index l.token-items))) ≡ Some (state_of l.next l.reader)
