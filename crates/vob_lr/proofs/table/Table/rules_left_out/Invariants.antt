-- Those among the complete rules so far.
use Rattle.vob_lr.specs.Conflicts.{IsLeftOut}
use Rattle.vob_lr.specs.Those.{AreThose}
use Rattle.vob_lr.specs.declared.table.Action.TheVariants.{Reduce}
use Rattle.vob_lr.proofs.TableLemmas.{Among}
use Rattle.vob_lr.proofs.table.Table.rules_left_out.Given as goal

abbrev pub invariant-loop-place : goal.invariant-loop-place
invariant-loop-place l =
    AreThose (Among (λ r. IsLeftOut l.self l.state l.terminal (Reduce r)) l.complete l.place) l.rules.items
