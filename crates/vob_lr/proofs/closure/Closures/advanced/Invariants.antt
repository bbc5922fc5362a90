-- The items behind those so far.
use Rattle.std.proofs.Common.{[]}
use Rattle.vob_lr.specs.Expansions.{Adds, Advances, IsByFirst}
use Rattle.vob_lr.proofs.closure.Closures.advanced.Given as goal

abbrev pub invariant-loop-place : goal.invariant-loop-place
invariant-loop-place l =
    Adds (IsByFirst (Advances l.self.rules.items l.symbol) l.set l.place) [] l.made.items
