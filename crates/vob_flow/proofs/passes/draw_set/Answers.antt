-- One source more was drawn from.
use Rattle.std.proofs.Common.{take, refl, sym, ◌∙◌, arith, subst}
use Rattle.std.proofs.lemmas.Grind.{get_or_default_zero}
use Rattle.std.proofs.lemmas.List.{length-take-le, take_all}
use Rattle.vob_flow.specs.Draws.{mask_of}
use Rattle.vob_flow.specs.Gains.{HasGained, IsDrawnOf}
use Rattle.vob_flow.proofs.DrawLemmas.{HasGained-more, HasGained-none, fits_after}
use Rattle.vob_flow.proofs.passes.draw_set.Goals as goal

pub loop-source-init : goal.loop-source-init
loop-source-init c =
    let none = length-take-le 0 c.args.from.now (omega arith) in (
      HasGained-none c.args.sets.now.rows c.args.set
          (IsDrawnOf c.args.sets.now.rows (mask_of c.args.masks c.args.set) (take 0 c.args.from.now))
          (λ v p. absurd (omega (arith, p.1.2, none))),
      refl,
    )

pub add_from-grew-requires-clause-masks : goal.add_from-grew-requires-clause-masks
add_from-grew-requires-clause-masks c = fits_after c.args.masks c.requires.masks
    c.loop-source.invariant.0.shape.count c.loop-source.invariant.1

pub loop-source-preserved : goal.loop-source-preserved
loop-source-preserved c =
    let from = c.args.from.now in
    let k = c.loop-source.source-index in (
      HasGained-more c.args.set (mask_of c.args.masks c.args.set) from k _ c.loop-source-test.true
          (sym (get_or_default_zero from k _ c.loop-source-test.true)) c.loop-source.invariant.0
          c.add_from-grew.ensures.gained,
      c.add_from-grew.ensures.columns ∙ c.loop-source.invariant.1,
    )

pub returns-clause-gained : goal.returns-clause-gained
returns-clause-gained c =
    let from = c.args.from.now in
    let all = take_all c.loop-source.source-index from (omega arith) in
    subst (λ xs. HasGained c.args.sets.now.rows c.args.set
    (IsDrawnOf c.args.sets.now.rows (mask_of c.args.masks c.args.set) xs) c.loop-source.sets.rows
    c.loop-source.grew) all c.loop-source.invariant.0
