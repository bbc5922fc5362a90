-- Each set has its place.
use Rattle.std.proofs.Common.{arith}
use Rattle.vob_flow.proofs.ScheduleLemmas.{ArePlaces-whole}
use Rattle.vob_flow.proofs.schedule.places_of.Goals as goal

pub returns : goal.returns
returns c = ArePlaces-whole c.requires _ c.loop-at.invariant.count
    (λ j less. c.loop-at.invariant.named j (omega (arith, less)))
