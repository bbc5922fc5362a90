-- Of numbers with different signs, the one below 0 is less, unless both are 0.
use Rattle.std.proofs.Common.{arith, ap, sym, ◌∙◌}
use Rattle.files_condition.proofs.NumberLemmas.{above-other, below-other}
use Rattle.files_condition.proofs.number.Number.order.Goals as goal

pub returns-then-self-2 : goal.returns-then-self-2
returns-then-self-2 c = below-other c.args.self.now c.args.other.now
    (sym (ap (λ number. number.negative) c.self.view_is) ∙ c.if-self-2.true)
    (sym (ap (λ number. number.negative) c.other.view_is) ∙ grind (arith, c.if-self-other.false, c.if-self-2)) (λ both. cc (c.if-are_zero.ensures.1 both))

pub returns : goal.returns
returns c = above-other c.args.self.now c.args.other.now
    (sym (ap (λ number. number.negative) c.self.view_is) ∙ c.if-self-2.false)
    (sym (ap (λ number. number.negative) c.other.view_is) ∙ grind (arith, c.if-self-other.false, c.if-self-2)) (λ both. cc (c.if-are_zero.ensures.1 both))
