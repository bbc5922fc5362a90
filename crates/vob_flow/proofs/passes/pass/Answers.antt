-- The sets that don't wait have their turn without a look, and the next one that does by it.
use Rattle.std.proofs.Common.{◌<◌, ◌∙◌, length, refl, arith}
use Rattle.std.proofs.lemmas.Bool.{false_from_ne_true}
use Rattle.vob_flow.proofs.PassLemmas.{HadTurns-look, HadTurns-skipped, HadTurns-start}
use Rattle.vob_flow.proofs.passes.pass.Goals as goal

pub looks-init : goal.looks-init
looks-init c = record {
  turns = HadTurns-start _ _ _ _ _ _;
  low = omega arith;
  columns = refl;
}

pub looks-preserved : goal.looks-preserved
looks-preserved c =
    let before = c.looks.invariant in
    let s = c.requires.schedule in
    let at = c.in-Some.at in
    let first = (c.in-Some.ensures.next.some at).0 refl in
    let inside : at < length c.args.schedule.now.order.items =
    omega (arith, c.in-Some.ensures.inside.0, before.turns.len, c.requires.pending) in
    record {
      turns = HadTurns-look s.order s.places
          (HadTurns-skipped s.order s.places before.turns at c.in-Some.ensures.above.0
          (omega (arith, inside))
          (λ p past less. false_from_ne_true _ (first.between p past less))) c.look-grew.ensures.look;
      low = omega (arith, inside);
      columns = c.look-grew.ensures.columns ∙ before.columns;
    }

pub returns-clause-pass : goal.returns-clause-pass
returns-clause-pass c =
    let before = c.looks.invariant in
    let s = c.requires.schedule in
    HadTurns-skipped s.order s.places before.turns _ before.low (omega arith)
    (λ p past low. false_from_ne_true _ (c.in_default.ensures.next.none.0 refl p past
    (omega (arith, low, before.turns.len, c.requires.pending))))
