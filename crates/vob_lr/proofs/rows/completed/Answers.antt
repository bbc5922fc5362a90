-- One rule more, if the next item is complete.
use Rattle.std.proofs.Common.{arith, refl}
use Rattle.std.proofs.lemmas.Option.{none-some}
use Rattle.vob_lr.proofs.CompletedLemmas.{completed_all, completed_with, completed_without}
use Rattle.vob_lr.proofs.rows.completed.Goals.{in-Some+in_ok-push, in_default}
use Rattle.vob_lr.proofs.rows.completed.Goals as goal

pub loop-place-preserved : goal.loop-place-preserved
loop-place-preserved c =
    let rules = c.args.items.now.rules.items in
    let k = c.loop-place.place in elim c.match-completed.branch [
      | in-Some+in_ok-push w ↦
          rw (w.rules-is, w.in_ok-push.ensures.items)
          (completed_with rules c.args.set.now k c.loop-place.rules.items c.loop-place.invariant c.requires
          (omega arith) w.in-Some.rule ((w.in-Some.ensures w.in-Some.rule).0 refl))
      | in_default w ↦
          rw w.rules-is
          (completed_without rules c.args.set.now k c.loop-place.rules.items c.loop-place.invariant
          (λ r done. none-some r ((w.in_default.ensures r).1 done)))
    ]

pub returns : goal.returns
returns c =
    completed_all c.args.items.now.rules.items c.args.set.now c.loop-place.place c.loop-place.rules.items
    c.loop-place.invariant (omega arith)
