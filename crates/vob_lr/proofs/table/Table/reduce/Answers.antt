-- States are left, and the one is entered that follows, if there is one.
use Rattle.std.proofs.Common.{◌≡◌, ◌↔◌, ◌∙◌, ℕ, Some, ap, arith, subst, sym}
use Rattle.vob_lr.specs.Lookaheads.{HasMove, Machine}
use Rattle.vob_lr.specs.Parses.{Config, IsReplaced, replaced}
use Rattle.vob_lr.specs.declared.grammar.Symbol.TheVariants.{Nonterminal}
use Rattle.vob_lr.proofs.StepLemmas.{replaced_is, replaced_none}
use Rattle.vob_lr.proofs.table.Table.reduce.Goals as goal

pub returns-in_default-clause-err : goal.returns-in_default-clause-err
returns-in_default-clause-err c =
    let own = c.rule-own.result.now in
    let next = subst (λ (m : Machine). (p : ℕ) → (c.next.result ≡ Some p)
    ↔ HasMove m.moves c.state.result (Nonterminal own.left) p) c.lookaheads.ensures.machine
    c.next.ensures in (
      sym (c.read.ensures ∙ ap (λ (r : Config). r.read) c.leave.ensures),
      replaced_none c.args.self.now.machine c.args.run.now c.leave.new.self c.args.rule c.len.result
          c.state.result own c.next.result c.rule-own.ensures (omega (arith, c.len.ensures, own.right.ok.0))
          c.leave.ensures c.state.ensures next c.in_default.is,
    )

pub returns-then-reductions-steps-clause-err : goal.returns-then-reductions-steps-clause-err
returns-then-reductions-steps-clause-err c =
    let own = c.rule-own.result.now in
    let next = subst (λ (m : Machine). (p : ℕ) → (c.next.result ≡ Some p)
    ↔ HasMove m.moves c.state.result (Nonterminal own.left) p) c.lookaheads.ensures.machine
    c.next.ensures in (
      replaced c.args.rule 0 c.in-Some.state c.leave.new.self,
      replaced_is c.args.self.now.machine c.args.run.now c.leave.new.self c.args.rule c.len.result
          c.state.result own c.next.result c.rule-own.ensures (omega (arith, c.len.ensures, own.right.ok.0))
          c.leave.ensures c.state.ensures next c.in-Some.state c.in-Some.is,
      omega (arith, c.if-reductions-steps.true, c.reductions.ensures),
    )

pub returns-clause-ok : goal.returns-clause-ok
returns-clause-ok c =
    let own = c.rule-own.result.now in
    let next = subst (λ (m : Machine). (p : ℕ) → (c.next.result ≡ Some p)
    ↔ HasMove m.moves c.state.result (Nonterminal own.left) p) c.lookaheads.ensures.machine
    c.next.ensures in
    subst (λ (d : Config). IsReplaced c.args.self.now.machine c.args.rule c.args.run.now d)
    (sym c.in_ok-enter.ensures)
    (replaced_is c.args.self.now.machine c.args.run.now c.leave.new.self c.args.rule c.len.result
    c.state.result own c.next.result c.rule-own.ensures (omega (arith, c.len.ensures, own.right.ok.0))
    c.leave.ensures c.state.ensures next c.in-Some.state c.in-Some.is)
