-- The next rule stands against the shift.
use Rattle.std.proofs.Common.{◌∙◌, ◌+◌, ◌-◌, arith, drop, length, sym}
use Rattle.std.proofs.lemmas.List.{length-drop, take_all}
use Rattle.files_grammar.specs.Conflicts.{decision_in}
use Rattle.files_grammar.proofs.LeftLemmas.{next_both, next_neither, next_none, next_one}
use Rattle.files_grammar.proofs.conflicts.left_by_error.Goals.{in-One, in-Both+in_ok-push-in-Both}
use Rattle.files_grammar.proofs.conflicts.left_by_error.Goals as goal

pub returns-in-Neither : goal.returns-in-Neither
returns-in-Neither c =
    let which = decision_in c.args.file.now c.args.terminal in
    let rules = c.args.rules.now in
    let k = c.loop-place.place in
    let rest = take_all (length rules - (k + 1)) (drop (k + 1) rules) (omega (arith, length-drop (k + 1) rules)) in
    rw (c.in_ok-extend_from_slice-in-Neither.ensures.items, rest)
    (next_neither which rules c.loop-place.left.items k (omega arith) c.loop-place.invariant
    (sym c.decide_in.ensures ∙ c.in-Neither.is))

pub loop-place-preserved : goal.loop-place-preserved
loop-place-preserved c =
    let which = decision_in c.args.file.now c.args.terminal in
    elim c.match-decide_in.branch [
      | in-One w ↦
          rw w.left-is
          (next_one which c.args.rules.now c.loop-place.left.items c.loop-place.place (omega arith)
          c.loop-place.invariant (sym c.decide_in.ensures ∙ w.in-One.is))
      | in-Both+in_ok-push-in-Both w ↦
          rw (w.left-is, w.in_ok-push-in-Both.ensures.items)
          (next_both which c.args.rules.now c.loop-place.left.items c.loop-place.place (omega arith)
          c.loop-place.invariant (sym c.decide_in.ensures ∙ w.in-Both.is))
    ]

pub returns : goal.returns
returns c =
    next_none (decision_in c.args.file.now c.args.terminal) c.args.rules.now c.loop-place.left.items c.loop-place.place
    (omega arith) c.loop-place.invariant
