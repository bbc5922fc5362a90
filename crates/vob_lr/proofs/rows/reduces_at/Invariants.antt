-- Those among the complete rules so far.
use Rattle.vob_lr.specs.Lookaheads.{Reduces}
use Rattle.vob_lr.specs.Those.{AreThose}
use Rattle.vob_lr.proofs.TableLemmas.{Among}
use Rattle.vob_lr.proofs.rows.reduces_at.Given as goal

abbrev pub invariant-loop-place : goal.invariant-loop-place
invariant-loop-place l =
    AreThose (Among (Reduces l.lookaheads l.state l.terminal) l.complete l.place) l.rules.items
