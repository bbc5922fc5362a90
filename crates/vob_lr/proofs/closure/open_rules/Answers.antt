-- One rule more opens.
use Rattle.std.proofs.Common.{◌+◌, ◌<◌, ◌∙◌, ap, arith, length, refl}
use Rattle.std.proofs.lemmas.Option.{slice_get_read}
use Rattle.vob_lr.specs.Expansions.{HasOpening}
use Rattle.vob_lr.specs.Items.{first_item}
use Rattle.vob_lr.specs.declared.grammar.Grammar.{Grammar}
use Rattle.vob_lr.proofs.ClosureLemmas.{HasOpening-more}
use Rattle.vob_lr.proofs.EquationLemmas.{GainEach-both}
use Rattle.vob_lr.proofs.FirstLemmas.{rule_read}
use Rattle.vob_lr.proofs.ItemLemmas.{first_below}
use Rattle.vob_lr.proofs.closure.open_rules.Goals as goal

pub open_rule-requires-clause-set : goal.open_rule-requires-clause-set
open_rule-requires-clause-set c =
    let rules = c.args.grammar.now.rules.items in
    let k = c.loop-number.number in
    let less : k < length rules = omega arith in
    let sound = rule_read c.args.grammar.now c.requires.rules k c.index-rule.result.now less c.index-rule.ensures in
    omega (arith, sound.0, c.loop-number.invariant.count, c.requires.sets)

pub open_rule-requires-clause-place : goal.open_rule-requires-clause-place
open_rule-requires-clause-place c =
    let rules = c.args.grammar.now.rules.items in
    let k = c.loop-number.number in
    let rule = c.index-rule.result.now in
    let less : k < length rules = omega arith in
    let is = slice_get_read rules (length rules) k rule refl less c.index-rule.ensures in
    let first = c.first.ensures ∙ ap (λ (g : Grammar). first_item g.rules.items k) c.requires.items in
    let below = first_below rules k rule is in
    omega (arith, c.loop-number.invariant.places, c.requires.places, first, below)

pub loop-number-preserved : goal.loop-number-preserved
loop-number-preserved c =
    let rules = c.args.grammar.now.rules.items in
    let k = c.loop-number.number in
    let rule = c.index-rule.result.now in
    let less : k < length rules = omega arith in
    let is = slice_get_read rules (length rules) k rule refl less c.index-rule.ensures in
    let first = c.first.ensures ∙ ap (λ (g : Grammar). first_item g.rules.items k) c.requires.items in
    GainEach-both (HasOpening rules (k + 1)) (rw (c.deref.ensures.value, first) at c.in_ok-open_rule.ensures)
    c.loop-number.invariant (HasOpening-more rules k rule is)
