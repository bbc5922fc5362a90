-- All places, moved up to the start, cut the block off there.
use Rattle.std.proofs.Common.{◌∙◌, ap, refl, arith}
use Rattle.vob_walk.proofs.ScanLemmas.{HasPlaces-from_part}
use Rattle.vob_walk.proofs.window.places_from.Goals as goal

pub returns-then-from-BITS-clause-places : goal.returns-then-from-BITS-clause-places
returns-then-from-BITS-clause-places g c =
    HasPlaces-from_part _ c.args.at c.args.start _ _ _ _ _ refl (omega arith)
    (ap g.T.BitBlock.number c.ONES.ensures ∙ g.met.T.BitBlock.ones_number_law) c.up.ensures.places
    c.band.ensures.places
