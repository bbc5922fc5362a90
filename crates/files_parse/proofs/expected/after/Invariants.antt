-- The tokens before the next were read.
use Rattle.std.proofs.Common.{reverse, take}
use Rattle.files_parse.specs.Stacks.{HasRead}
use Rattle.files_parse.proofs.expected.after.Given as goal

abbrev pub invariant-loop-at : goal.invariant-loop-at
invariant-loop-at l = HasRead l.table (take l.at l.tokens) (reverse l.states.items)
