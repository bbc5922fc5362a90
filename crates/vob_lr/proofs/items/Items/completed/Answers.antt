-- The rule of the item, if its dot is behind the right side.
use Rattle.std.proofs.Common.{◌∙◌, ap, arith, get_or, length}
use Rattle.std.proofs.lemmas.Option.{get_or_from_slice_get, none-some}
use Rattle.vob_lr.specs.declared.grammar.Grammar.{Grammar}
use Rattle.vob_lr.specs.declared.grammar.Rule.{Rule}
use Rattle.vob_lr.proofs.ItemLemmas.{completes_last, completes_not, item_inside}
use Rattle.vob_lr.proofs.items.Items.completed.Goals as goal

pub returns-then-number-len : goal.returns-then-number-len
returns-then-number-len c =
    let rules = c.self.inside.grammar.now.rules.items in
    rw (← c.self.view_is) (λ rule. (
      (λ e. absurd (none-some rule e)),
      (λ h. absurd (omega (arith, item_inside rules c.args.number h.item h.is, c.self.invariant.numbers.total))),
    ))

pub returns-then-item-len : goal.returns-then-item-len
returns-then-item-len c = λ r.
    let rules = c.args.self.now.rules.items in
    let item = c.item-item.result in
    let is = c.item-item.ensures in
    let read = c.index.ensures ∙ ap (λ (g : Grammar). get_or g.rules.items item.rule c.index.result.now) c.self.view_is
    ∙ get_or_from_slice_get rules item.rule is.rule c.index.result.now is.is in
    let long = ap (λ (x : Rule). length x.right.items) read in
    completes_not rules c.args.number item is r (omega (arith, long))

pub returns : goal.returns
returns c = λ r.
    let rules = c.args.self.now.rules.items in
    let item = c.item-item.result in
    let is = c.item-item.ensures in
    let read = c.index.ensures ∙ ap (λ (g : Grammar). get_or g.rules.items item.rule c.index.result.now) c.self.view_is
    ∙ get_or_from_slice_get rules item.rule is.rule c.index.result.now is.is in
    let long = ap (λ (x : Rule). length x.right.items) read in
    completes_last rules c.args.number item is r (omega (arith, long))
