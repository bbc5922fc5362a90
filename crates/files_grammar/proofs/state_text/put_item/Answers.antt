-- The rule of the item stands at its number.
use Rattle.std.proofs.Common.{◌∙◌, sym}
use Rattle.std.proofs.lemmas.Bool.{false≢true}
use Rattle.std.proofs.lemmas.Option.{slice_get_within}
use Rattle.files_grammar.proofs.ItemLemmas.{dot_inside, says_item, says_none}
use Rattle.files_grammar.proofs.TextLemmas.{says_as}
use Rattle.files_grammar.proofs.state_text.put_item.Goals as goal

pub rule_of-rule-requires : goal.rule_of-rule-requires
rule_of-rule-requires g c = slice_get_within _ _ _ c.item_of-item.ensures.is

pub is_shown-requires : goal.is_shown-requires
is_shown-requires g c =
    dot_inside c.args.states.now c.args.names.now c.args.state c.args.number c.item_of-item.result
    c.item_of-item.ensures c.rule_of-rule.result.now c.rule_of-rule.ensures

pub put_dotted-requires : goal.put_dotted-requires
put_dotted-requires g c =
    dot_inside c.args.states.now c.args.names.now c.args.state c.args.number c.item_of-item.result
    c.item_of-item.ensures c.rule_of-rule.result.now c.rule_of-rule.ensures

pub can_reduce-requires : goal.can_reduce-requires
can_reduce-requires g c =
    dot_inside c.args.states.now c.args.names.now c.args.state c.args.number c.item_of-item.result
    c.item_of-item.ensures c.rule_of-rule.result.now c.rule_of-rule.ensures

pub returns-then-not-is_shown : goal.returns-then-not-is_shown
returns-then-not-is_shown g c =
    says_none c.args.states.now c.args.names.now c.args.state c.args.number c.item_of-item.result
    c.item_of-item.ensures c.rule_of-rule.result.now c.rule_of-rule.ensures _
    (λ shown. false≢true (sym c.if-not-is_shown.true ∙ c.is_shown.ensures.1 shown))

pub returns : goal.returns
returns g c =
    says_item c.args.states.now c.args.names.now c.args.state c.args.number c.item_of-item.result
    c.item_of-item.ensures c.rule_of-rule.result.now c.rule_of-rule.ensures _ _ _ _
    (c.is_shown.ensures.0 c.if-not-is_shown.false) c.in_ok-put_dotted.ensures
    (says_as _ _ c.can_reduce.ensures c.in_ok-put_ahead_if.ensures) c.in_ok-end_line.ensures
