-- The number of each item is below their count.
use Rattle.std.proofs.Common.{inl, inr, refl, arith}
use Rattle.files_grammar.proofs.ItemLemmas.{item_inside}
use Rattle.files_grammar.proofs.TextLemmas.{writes_as, writes_nothing}
use Rattle.files_grammar.proofs.state_text.put_number.Goals as goal

pub returns-then-number-len : goal.returns-then-number-len
returns-then-number-len g c =
    let total = rw c.items.ensures at c.len.ensures in
    writes_nothing _ (inr (
      (λ item is. omega (
        arith,
        total,
        c.if-number-len.true,
        item_inside c.args.states.now.grammar.rules.items c.args.number item is,
      )),
      refl,
    ))

pub returns : goal.returns
returns g c = writes_as _ _ (λ text says. inl says) c.in_ok-put_item.ensures
