-- By the places of both shifts.
use Rattle.vob_block.proofs.PlaceLemmas.{HasPlaces-funnel_down}
use Rattle.vob_block.proofs.bit_block.BitBlock.funnel_down.Goals as goal

pub returns-clause-places : goal.returns-clause-places
returns-clause-places g c =
    let number = g.Self.BitBlock.number in
    HasPlaces-funnel_down g.Self.BitBlock.BITS c.args.from c.BITS.result (number c.args.self)
    (number c.args.high) (number c.down.result) (number c.up.result) (number c.bor.result)
    c.BITS.ensures c.requires.positive c.requires.below c.down.ensures.places c.up.ensures.places
    c.bor.ensures.places
