-- One item more.
use Rattle.std.proofs.Common.{◌∙◌, ◌++◌, ◌∷◌, [], ap, length, refl, sym, subst, arith, vec_len}
use Rattle.std.proofs.lemmas.Option.{slice_get_read}
use Rattle.vob_lr.specs.ItemTables.{AreItems}
use Rattle.vob_lr.specs.declared.grammar.Rule.{Rule}
use Rattle.vob_lr.specs.declared.items.Item.{Item}
use Rattle.vob_lr.proofs.ItemLemmas.{AreItems-push, first_item-more}
use Rattle.vob_lr.proofs.items.add_items.Goals as goal

pub loop-dot-preserved : goal.loop-dot-preserved
loop-dot-preserved c =
    let rules = c.args.rules.now in
    let rule = c.index-rules-rule.result in
    let item : Item = record { rule = c.args.rule; dot = c.loop-dot.dot } in
    let is = slice_get_read rules (length rules) c.args.rule rule refl c.requires.rule
    c.index-rules-rule.is in
    let last = c.len-last.ensures ∙ ap (λ (r : Rule). vec_len r.right) (sym c.index-rules-rule.is) in
    rw c.in_ok-push.ensures.items
    (subst (λ n. AreItems rules n (c.loop-dot.items.items ++ item ∷ [])) (omega arith)
    (AreItems-push rules _ _ item c.loop-dot.invariant
    record { rule = rule; is = is; dot = omega arith; number = refl }))

pub returns : goal.returns
returns c =
    let rules = c.args.rules.now in
    let rule = c.index-rules-rule.result in
    let item : Item = record { rule = c.args.rule; dot = c.len-last.result } in
    let is = slice_get_read rules (length rules) c.args.rule rule refl c.requires.rule
    c.index-rules-rule.is in
    let last = c.len-last.ensures ∙ ap (λ (r : Rule). vec_len r.right) (sym c.index-rules-rule.is) in
    let more = first_item-more rules c.args.rule rule is in
    rw c.in_ok-push-2.ensures.items
    (subst (λ n. AreItems rules n (c.loop-dot.items.items ++ item ∷ [])) (omega (arith, more, last))
    (AreItems-push rules _ _ item c.loop-dot.invariant
    record { rule = rule; is = is; dot = omega arith; number = omega arith }))
