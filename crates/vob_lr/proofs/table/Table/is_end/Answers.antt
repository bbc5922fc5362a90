-- Rule 0 is there, and its dot behind all its symbols.
use Rattle.std.proofs.Common.{◌≡◌, ◌∙◌, List, Some, ap, arith, length, slice_get, subst, sym}
use Rattle.vob_lr.specs.Lookaheads.{Machine}
use Rattle.vob_lr.specs.Parses.{IsLast}
use Rattle.vob_lr.specs.declared.grammar.Grammar.{Grammar}
use Rattle.vob_lr.specs.declared.grammar.Rule.{Rule}
use Rattle.vob_lr.proofs.StepLemmas.{end_is}
use Rattle.vob_lr.proofs.table.Table.is_end.Goals as goal

pub returns-in-Some : goal.returns-in-Some
returns-in-Some c =
    let m = c.args.self.now.machine in
    let rule = c.in-Some.rule.now in
    let grammar = c.grammar.ensures ∙ c.items.ensures ∙ ap (λ (n : Machine). n.grammar) c.lookaheads.ensures.machine in
    let is : slice_get m.grammar.rules.items 0 ≡ Some rule =
    ap (λ (g : Grammar). slice_get g.rules.items 0) (sym grammar)
    ∙ ap (λ (rules : List Rule). slice_get rules 0) (sym c.deref.ensures.value) ∙ sym c.in-Some.ensures.value in
    let long : c.len.result ≡ length rule.right.items = omega (arith, c.len.ensures, rule.right.ok.0) in
    let both = end_is m c.args.state rule is in (
      (λ on. both.0 (subst (IsLast m c.args.state) long (c.is_last.ensures.0 on))),
      (λ done. c.is_last.ensures.1 (subst (IsLast m c.args.state) (sym long) (both.1 done))),
    )
