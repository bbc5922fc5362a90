-- The other's places, negated, and those that both then have.
use Rattle.vob_block.proofs.KernelLemmas.{HasPlaces-without}
use Rattle.vob_block.proofs.combine.WithoutCombine.block.Goals as goal

pub returns-clause-places : goal.returns-clause-places
returns-clause-places g c =
    HasPlaces-without g.T.BitBlock.BITS (g.T.BitBlock.number c.args.own) (g.T.BitBlock.number c.args.other)
    (g.T.BitBlock.number c.bnot.result) (g.T.BitBlock.number c.band.result) c.bnot.ensures.places
    c.band.ensures.places
