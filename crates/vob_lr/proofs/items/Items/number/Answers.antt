-- The number of the first item of the rule, and the dot's.
use Rattle.std.proofs.Common.{◌∙◌, arith, length, refl}
use Rattle.std.proofs.lemmas.Option.{slice_get_read}
use Rattle.vob_lr.proofs.ItemLemmas.{no_dot, no_rule, number_is}
use Rattle.vob_lr.proofs.items.Items.number.Goals as goal
use Rattle.vob_lr.proofs.items.Items.number.Goals.{After-index}

pub returns : goal.returns
returns c =
    let grammar = c.self.inside.grammar.now in
    let rules = grammar.rules.items in
    let item = c.args.item in
    let rule = c.index.result.now in
    let is = slice_get_read rules (length rules) item.rule rule refl (omega arith) c.index.ensures in
    let first = c.index-2.ensures ∙ c.self.invariant.starts.each item.rule c.index-2.result.now
    (omega (arith, c.self.invariant.starts.total)) in
    rw (← c.self.view_is) (number_is rules item rule c.index-2.result.now is (omega arith) first)

pub returns-then-item-len : goal.returns-then-item-len
returns-then-item-len c =
    rw (← c.self.view_is)
    (no_rule c.self.inside.grammar.now.rules.items c.args.item (omega arith))

pub returns-then-item-len-2 : goal.returns-then-item-len-2
returns-then-item-len-2 c =
    let rules = c.self.inside.grammar.now.rules.items in
    let item = c.args.item in
    let rule = c.index.result.now in
    let is = slice_get_read rules (length rules) item.rule rule refl (omega arith) c.index.ensures in
    rw (← c.self.view_is) (no_dot rules item rule is (omega arith))
