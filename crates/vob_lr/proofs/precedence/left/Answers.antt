-- The next rule stands against the shift.
use Rattle.std.proofs.Common.{◌∙◌, ℕ, ◌-◌, ap, arith, drop, length, None, slice_index_or, sym}
use Rattle.std.proofs.lemmas.List.{drop_all, length-drop, take_all}
use Rattle.vob_lr.specs.Precedences.{beside_all, left_of, stays}
use Rattle.vob_lr.specs.declared.precedence.Stays.{Stays}
use Rattle.vob_lr.proofs.PrecedenceLemmas.{beside_all-shift, next_both, next_nothing, next_rule, next_shift}
use Rattle.vob_lr.proofs.precedence.left.Goals.{in-Shift, in-Both+in_ok-push-in-Both}
use Rattle.vob_lr.proofs.precedence.left.Goals as goal

pub returns-in-Rule : goal.returns-in-Rule
returns-in-Rule c =
    let rest = take_all (length c.args.rules.now - c.loop-place.place)
    (drop c.loop-place.place c.args.rules.now)
    (omega (arith, length-drop c.loop-place.place c.args.rules.now)) in
    rw (c.in_ok-extend_from_slice-in-Rule.ensures.items, rest)
    (next_rule (λ r. stays (slice_index_or c.args.precedences.now r None) c.args.terminal)
    c.args.state c.args.rules.now c.loop-place.kept.items c.loop-place.place (omega arith)
    c.loop-place.invariant cc)

pub returns-in-Nothing : goal.returns-in-Nothing
returns-in-Nothing c =
    rw c.new.ensures.items
    (next_nothing (λ r. stays (slice_index_or c.args.precedences.now r None) c.args.terminal)
    c.args.state c.args.rules.now c.loop-place.kept.items c.loop-place.place (omega arith)
    c.loop-place.invariant cc)

pub loop-place-preserved : goal.loop-place-preserved
loop-place-preserved c = elim c.match-compare.branch [
  | in-Shift w ↦
      rw w.kept-is
      (next_shift (λ r. stays (slice_index_or c.args.precedences.now r None) c.args.terminal)
      c.args.state c.args.rules.now c.loop-place.kept.items c.loop-place.place (omega arith)
      c.loop-place.invariant cc)
  | in-Both+in_ok-push-in-Both w ↦
      rw (w.kept-is, w.in_ok-push-in-Both.ensures.items)
      (next_both (λ r. stays (slice_index_or c.args.precedences.now r None) c.args.terminal)
      c.args.state c.args.rules.now c.loop-place.kept.items c.loop-place.place (omega arith)
      c.loop-place.invariant cc)
]

pub returns : goal.returns
returns c =
    let which : ℕ → Stays =
    λ r. stays (slice_index_or c.args.precedences.now r None) c.args.terminal in
    let none = drop_all c.loop-place.place c.args.rules.now (omega arith) in
    sym (c.loop-place.invariant
    ∙ ap (λ rs. beside_all c.loop-place.kept.items (left_of which c.args.state rs)) none
    ∙ beside_all-shift c.loop-place.kept.items c.args.state)
