-- One rule more.
use Rattle.std.proofs.Common.{◌∙◌, arith, sym}
use Rattle.std.proofs.lemmas.Bool.{false≢true}
use Rattle.vob_lr.specs.Lookaheads.{Reduces}
use Rattle.files_grammar.proofs.ConflictLemmas.{reduces_below}
use Rattle.files_grammar.proofs.OrderLemmas.{below_all, below_none, below_with, below_without}
use Rattle.files_grammar.proofs.conflicts.rules_at.Goals.{then-reduces+in_ok-push, else-reduces}
use Rattle.files_grammar.proofs.conflicts.rules_at.Goals as goal

pub loop-rule-init : goal.loop-rule-init
loop-rule-init c =
    rw c.new-rules.ensures.items (below_none (Reduces c.args.states.now c.args.state c.args.terminal))

pub loop-rule-preserved : goal.loop-rule-preserved
loop-rule-preserved c =
    let P = Reduces c.args.states.now c.args.state c.args.terminal in
    elim c.if-reduces.branch [
      | then-reduces+in_ok-push w ↦
          rw (w.rules-is, w.in_ok-push.ensures.items)
          (below_with P c.loop-rule.rule c.loop-rule.rules.items c.loop-rule.invariant
          (c.reduces.ensures.0 w.if-reduces.true))
      | else-reduces w ↦
          rw w.rules-is
          (below_without P c.loop-rule.rule c.loop-rule.rules.items c.loop-rule.invariant
          (λ own. false≢true (sym w.if-reduces.false ∙ c.reduces.ensures.1 own)))
    ]

pub returns : goal.returns
returns c =
    let m = c.args.states.now in
    below_all (Reduces m c.args.state c.args.terminal) c.loop-rule.rule c.loop-rule.rules.items
    (λ r reduces. omega (
      arith,
      reduces_below m c.args.state c.args.terminal r reduces,
      c.loop-rule-test.false,
      c.count_of_rules-rule-end.ensures,
    ))
    c.loop-rule.invariant
