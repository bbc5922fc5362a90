-- One symbol more.
use Rattle.std.proofs.Common.{◌<◌, ◌∙◌, ap, arith, get_or, length, subst, List}
use Rattle.std.proofs.lemmas.List.{take_all}
use Rattle.vob_lr.specs.Units.{GainEdges, IsAlone, IsByOne, total_weight}
use Rattle.vob_lr.specs.declared.grammar.Symbol.{Symbol}
use Rattle.vob_lr.specs.declared.grammar.Symbol.TheVariants.{Terminal}
use Rattle.vob_lr.proofs.UnitLemmas.{GainEdges-more}
use Rattle.vob_lr.proofs.cycles.add_units.Goals as goal

pub loop-symbol-preserved : goal.loop-symbol-preserved
loop-symbol-preserved c =
    let rule = c.args.rule.now in
    let total = c.weigh_all-total.ensures ∙ ap (total_weight c.args.nullable.now.bits) c.deref.ensures.value in
    let less : c.loop-symbol.symbol-index < length rule.right.items =
    omega (arith, c.loop-symbol-test.true, ap length c.deref-symbol-items.ensures.value) in
    GainEdges-more (IsAlone c.args.nullable.now.bits rule.left (total_weight c.args.nullable.now.bits rule.right.items))
    rule.right.items c.loop-symbol.symbol-index _ (Terminal 0) _ _ _ less
    (ap (λ (xs : List Symbol). get_or xs c.loop-symbol.symbol-index (Terminal 0)) c.deref-symbol-items.ensures.value)
    c.loop-symbol.invariant (rw total at c.in_ok-add_unit.ensures)

pub returns : goal.returns
returns c =
    let rule = c.args.rule.now in
    subst (λ (xs : List Symbol). GainEdges (IsByOne (IsAlone c.args.nullable.now.bits rule.left
    (total_weight c.args.nullable.now.bits rule.right.items)) xs) c.args.edges.now.items c.loop-symbol.edges.items)
    (take_all c.loop-symbol.symbol-index rule.right.items
    (omega (arith, c.loop-symbol-test.false, ap length c.deref-symbol-items.ensures.value)))
    c.loop-symbol.invariant
