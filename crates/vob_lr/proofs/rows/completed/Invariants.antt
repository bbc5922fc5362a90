-- The rules so far whose complete items the set has.
use Rattle.vob_lr.specs.Expansions.{IsByFirst}
use Rattle.vob_lr.specs.Items.{Completes}
use Rattle.vob_lr.specs.Those.{AreThose}
use Rattle.vob_lr.proofs.rows.completed.Given as goal

abbrev pub invariant-loop-place : goal.invariant-loop-place
invariant-loop-place l =
    AreThose (IsByFirst (λ i r. Completes l.items.rules.items r i) l.set l.place) l.rules.items
