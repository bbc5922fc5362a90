-- One complete rule more.
use Rattle.std.proofs.Common.{arith, sym, ◌∙◌}
use Rattle.std.proofs.lemmas.Bool.{false≢true}
use Rattle.vob_lr.specs.Lookaheads.{Reduces}
use Rattle.vob_lr.proofs.MemberLemmas.{ahead_inside}
use Rattle.vob_lr.proofs.TableLemmas.{among_all, among_none, among_with, among_without}
use Rattle.vob_lr.proofs.rows.reduces_at.Goals.{then-reduces+in_ok-push, else-reduces}
use Rattle.vob_lr.proofs.rows.reduces_at.Goals as goal

pub loop-place-init : goal.loop-place-init
loop-place-init c =
    rw c.new-rules.ensures.items
    (among_none (Reduces c.args.lookaheads.now c.args.state c.args.terminal) c.args.complete.now)

pub loop-place-preserved : goal.loop-place-preserved
loop-place-preserved c = elim c.if-reduces.branch [
  | then-reduces+in_ok-push w ↦
      rw (w.rules-is, w.in_ok-push.ensures.items)
      (among_with (Reduces c.args.lookaheads.now c.args.state c.args.terminal) c.args.complete.now
      c.requires.rise c.loop-place.place (omega arith) c.loop-place.rules.items c.loop-place.invariant
      (c.reduces.ensures.0 w.if-reduces.true))
  | else-reduces w ↦
      rw w.rules-is
      (among_without (Reduces c.args.lookaheads.now c.args.state c.args.terminal) c.args.complete.now
      c.requires.rise c.loop-place.place (omega arith) c.loop-place.rules.items c.loop-place.invariant
      (λ own. false≢true (sym w.if-reduces.false ∙ c.reduces.ensures.1 own)))
]

pub returns : goal.returns
returns c =
    let m = c.args.lookaheads.now in
    among_all (Reduces m c.args.state c.args.terminal) c.args.complete.now c.loop-place.place
    (omega arith)
    (λ r (i, complete, ahead).
    (c.requires.each r).1 (i, complete, ahead_inside m c.automaton-automaton.ensures.states ahead))
    c.loop-place.rules.items c.loop-place.invariant
