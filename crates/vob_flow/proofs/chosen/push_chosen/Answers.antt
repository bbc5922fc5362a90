-- One edge more is appended.
use Rattle.std.proofs.Common.{ap, refl}
use Rattle.vob_flow.specs.Touched.{place_in}
use Rattle.vob_flow.proofs.SpreadLemmas.{mapped_next}
use Rattle.vob_flow.proofs.chosen.push_chosen.Goals as goal

pub loop-end-preserved : goal.loop-end-preserved
loop-end-preserved c = mapped_next (λ end. (c.args.at, place_in c.args.nodes.now end)) c.args.ends.now c.loop-end.end-index _ _ _ _ _
    c.loop-end-test.true refl (ap (λ p. (c.args.at, p)) c.place_of.ensures) c.loop-end.invariant c.in_ok-push.ensures.items
