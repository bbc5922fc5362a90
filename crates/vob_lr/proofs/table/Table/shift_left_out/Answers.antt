-- The state to which the move leads, if the cell doesn't shift.
use Rattle.std.proofs.Common.{◌≡◌, ◌↔◌, ◌∙◌, ℕ, Some, subst, sym}
use Rattle.std.proofs.lemmas.Bool.{false≢true}
use Rattle.vob_lr.specs.Lookaheads.{HasMove, Machine}
use Rattle.vob_lr.specs.declared.grammar.Symbol.TheVariants.{Terminal}
use Rattle.vob_lr.proofs.LeftOutLemmas.{has_out, none_out, shift_out}
use Rattle.vob_lr.proofs.table.Table.shift_left_out.Goals as goal

pub returns-in_err-to : goal.returns-in_err-to
returns-in_err-to c =
    let moves = subst (λ (m : Machine). (p : ℕ) →
    (c.next.result ≡ Some p) ↔ HasMove m.moves c.args.state (Terminal c.args.terminal) p)
    c.lookaheads.ensures.machine c.next.ensures in
    rw c.from_residual.ensures
    (none_out c.args.self.now c.args.state c.args.terminal c.next.result moves c.in_err-to.was)

pub returns-then-has : goal.returns-then-has
returns-then-has c =
    let moves = subst (λ (m : Machine). (p : ℕ) →
    (c.next.result ≡ Some p) ↔ HasMove m.moves c.args.state (Terminal c.args.terminal) p)
    c.lookaheads.ensures.machine c.next.ensures in
    has_out c.args.self.now c.args.state c.args.terminal c.next.result moves c.in_ok-to.to c.in_ok-to.was
    (c.has.ensures.0 c.if-has.true)

pub returns : goal.returns
returns c =
    let moves = subst (λ (m : Machine). (p : ℕ) →
    (c.next.result ≡ Some p) ↔ HasMove m.moves c.args.state (Terminal c.args.terminal) p)
    c.lookaheads.ensures.machine c.next.ensures in
    shift_out c.args.self.now c.args.state c.args.terminal c.next.result moves c.in_ok-to.to c.in_ok-to.was
    (λ own. false≢true (sym c.if-has.false ∙ c.has.ensures.1 own))
