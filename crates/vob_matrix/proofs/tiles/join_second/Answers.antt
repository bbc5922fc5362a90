-- The second groups are moved before those of the other word.
use Rattle.vob_matrix.proofs.TileLemmas.{JoinsSecond-joined}
use Rattle.vob_matrix.proofs.tiles.join_second.Goals as goal

pub returns : goal.returns
returns c = λ pairs whole has.
    JoinsSecond-joined c.args.group pairs c.args.mask whole has c.args.low c.args.high _ _ _ _ _
    c.down.ensures.places c.band.ensures.places c.bnot.ensures.places c.band-2.ensures.places
    c.bor.ensures.places
