-- Reductions led from the first states to those of the stack.
use Rattle.std.proofs.Common.{reverse}
use Rattle.files_parse.specs.Marks.{IsGoingOn}
use Rattle.files_parse.proofs.parser.take.Given as goal

abbrev pub invariant-loop-count : goal.invariant-loop-count
invariant-loop-count l =
    IsGoingOn l.table l.terminal (reverse l.fn.states.items) (reverse l.states.items) l.mark
