-- One place more is noted.
use Rattle.std.proofs.Common.{◌≡◌, ◌∙◌, refl, length, arith, subst}
use Rattle.std.proofs.lemmas.List.{length-set}
use Rattle.vob_flow.specs.Touched.{AreNoted}
use Rattle.vob_flow.proofs.SpreadLemmas.{noted_more, noted_none}
use Rattle.vob_flow.proofs.chosen.note_places.Goals as goal

pub loop-place-init : goal.loop-place-init
loop-place-init c = (noted_none c.args.nodes.now c.requires.rise _, refl)

pub loop-place-preserved : goal.loop-place-preserved
loop-place-preserved c = (
  noted_more c.args.nodes.now c.requires.rise c.loop-place.place c.loop-place.places c.loop-place-test.true
      (omega (arith, c.requires.inside c.loop-place.place 0 c.loop-place-test.true, c.loop-place.invariant.1))
      c.loop-place.invariant.0,
  length-set _ _ _ ∙ c.loop-place.invariant.1,
)

pub returns-clause-noted : goal.returns-clause-noted
returns-clause-noted c =
    let all : c.loop-place.place ≡ length c.args.nodes.now = omega (arith, c.loop-place-test.false, c.loop-place.auto.place-end) in
    subst (λ k. AreNoted c.args.nodes.now k c.loop-place.places) all c.loop-place.invariant.0
