-- An order of lists is partial by the same rule.
use Rattle.std.specs.Prelude.{Some}
use Rattle.std.specs.Cmp.Lexicographic.{lists_agrees}
use Rattle.std.proofs.Common.{refl, sym, ap, ◌∙◌}
use Rattle.vob.proofs.order.VobPartialOrd.partial_cmp.Goals as goal

pub returns : goal.returns
returns g c = ap Some c.cmp.ensures
    ∙ sym (lists_agrees (λ _ _. refl) c.args.self.now.bits c.args.other.now.bits)
