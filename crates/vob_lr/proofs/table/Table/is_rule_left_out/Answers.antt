-- The rule isn't one by which a parser may reduce.
use Rattle.std.proofs.Common.{◌∙◌, subst, sym}
use Rattle.std.proofs.lemmas.Bool.{false≢true}
use Rattle.vob_lr.specs.Lookaheads.{Machine, Reduces}
use Rattle.vob_lr.proofs.table.Table.is_rule_left_out.Goals as goal

pub returns-else-reduces : goal.returns-else-reduces
returns-else-reduces c = (
  (λ on. absurd (false≢true (sym c.if-reduces.false ∙ on))),
  (λ (may, out).
      c.reduces.ensures.1 (subst (λ (m : Machine). Reduces m c.args.state c.args.terminal c.args.rule)
      (sym c.lookaheads.ensures.machine) may)),
)
