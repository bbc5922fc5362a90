-- One complete rule more.
use Rattle.std.proofs.Common.{arith, sym, ◌∙◌, ℕ}
use Rattle.std.proofs.lemmas.Bool.{false≢true}
use Rattle.vob_lr.specs.Conflicts.{IsLeftOut}
use Rattle.vob_lr.specs.declared.table.Action.TheVariants.{Reduce}
use Rattle.vob_lr.proofs.MemberLemmas.{ahead_inside}
use Rattle.vob_lr.proofs.TableLemmas.{among_all, among_none, among_with, among_without}
use Rattle.vob_lr.proofs.table.Table.rules_left_out.Goals.{then-is_rule_left_out+in_ok-push, else-is_rule_left_out}
use Rattle.vob_lr.proofs.table.Table.rules_left_out.Goals as goal

pub loop-place-init : goal.loop-place-init
loop-place-init c =
    rw c.new-rules.ensures.items
    (among_none (λ r. IsLeftOut c.args.self.now c.args.state c.args.terminal (Reduce r)) c.args.complete.now)

pub loop-place-preserved : goal.loop-place-preserved
loop-place-preserved c =
    let P = λ (r : ℕ). IsLeftOut c.args.self.now c.args.state c.args.terminal (Reduce r) in
    elim c.if-is_rule_left_out.branch [
      | then-is_rule_left_out+in_ok-push w ↦
          rw (w.rules-is, w.in_ok-push.ensures.items)
          (among_with P c.args.complete.now c.requires.rise c.loop-place.place (omega arith)
          c.loop-place.rules.items c.loop-place.invariant
          (c.is_rule_left_out.ensures.0 w.if-is_rule_left_out.true))
      | else-is_rule_left_out w ↦
          rw w.rules-is
          (among_without P c.args.complete.now c.requires.rise c.loop-place.place (omega arith)
          c.loop-place.rules.items c.loop-place.invariant
          (λ own. false≢true (sym w.if-is_rule_left_out.false ∙ c.is_rule_left_out.ensures.1 own)))
    ]

pub returns : goal.returns
returns c =
    let P = λ (r : ℕ). IsLeftOut c.args.self.now c.args.state c.args.terminal (Reduce r) in
    let m = c.args.self.now.machine in
    among_all P c.args.complete.now c.loop-place.place (omega arith)
    (λ r ((i, complete, ahead), out).
    (c.requires.each r).1 (i, complete, ahead_inside m c.lookaheads-states.ensures.sound.states ahead))
    c.loop-place.rules.items c.loop-place.invariant
