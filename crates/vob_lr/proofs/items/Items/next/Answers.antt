-- The symbol at the dot.
use Rattle.std.proofs.Common.{◌∙◌, List, ap, arith, get_or, slice_get}
use Rattle.std.proofs.lemmas.Option.{none-some}
use Rattle.vob_lr.specs.declared.grammar.Grammar.{Grammar}
use Rattle.vob_lr.specs.declared.grammar.Symbol.{Symbol}
use Rattle.vob_lr.proofs.ItemLemmas.{item_inside, next_read}
use Rattle.vob_lr.proofs.items.Items.next.Goals as goal

pub returns-then-number-len : goal.returns-then-number-len
returns-then-number-len c =
    let rules = c.self.inside.grammar.now.rules.items in
    rw (← c.self.view_is) (λ x. (
      (λ e. absurd (none-some x e)),
      (λ next. absurd (omega (arith, item_inside rules c.args.number next.item next.is, c.self.invariant.numbers.total))),
    ))

pub returns : goal.returns
returns c = λ x.
    let item = c.item-item.result in
    let rule = c.index.result.now in
    let read = c.index.ensures
    ∙ ap (λ (g : Grammar). get_or g.rules.items item.rule rule) c.self.view_is in
    let found = c.symbol_at.ensures ∙ ap (λ (s : List Symbol). slice_get s item.dot) c.deref.ensures.value in
    next_read c.args.self.now.rules.items c.args.number item c.item-item.ensures rule read _ found x
