-- What the items so far give.
use Rattle.std.proofs.Common.{false, replicate}
use Rattle.vob_lr.specs.Expansions.{Gains, Gives, IsByFirst}
use Rattle.vob_lr.specs.Items.{item_total}
use Rattle.vob_lr.proofs.closure.Closures.closure.Given as goal

abbrev pub invariant-loop-place : goal.invariant-loop-place
invariant-loop-place l =
    Gains (IsByFirst (Gives l.self.rules.items) l.set l.place)
    (replicate (item_total l.self.rules.items) false) l.made.bits
