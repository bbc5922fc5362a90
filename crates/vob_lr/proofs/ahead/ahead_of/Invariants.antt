-- The symbols behind the dots of the items so far.
use Rattle.std.proofs.Common.{◌+◌, false, replicate}
use Rattle.vob_lr.specs.Expansions.{Gains, IsByFirst}
use Rattle.vob_lr.specs.Ahead.{HasAhead}
use Rattle.vob_lr.proofs.ahead.ahead_of.Given as goal

abbrev pub invariant-loop-place : goal.invariant-loop-place
invariant-loop-place l =
    Gains (IsByFirst (HasAhead l.items) l.set l.place)
    (replicate (l.items.terminals + l.items.nonterminals) false) l.ahead.bits
