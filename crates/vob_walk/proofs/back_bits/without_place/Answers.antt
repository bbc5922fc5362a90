-- The mask is the place alone, and `^` clears it.
use Rattle.std.proofs.Common.{ap, ◌∙◌}
use Rattle.vob_block.proofs.PlaceLemmas.{mask-is}
use Rattle.vob_walk.proofs.BlockBitsLemmas.{HasPlaces-cleared}
use Rattle.vob_walk.proofs.back_bits.without_place.Goals as goal

pub returns-clause-places : goal.returns-clause-places
returns-clause-places g c =
    let one = ap g.T.BitBlock.number c.ONE.ensures ∙ g.met.T.BitBlock.one_number_law in
    HasPlaces-cleared _ _ _ _ c.args.j c.requires.there
    (mask-is _ _ c.requires.inside _ _ one c.up.ensures.within c.up.ensures.places)
    c.bxor.ensures.places
