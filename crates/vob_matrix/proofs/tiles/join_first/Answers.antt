-- The mask keeps the first groups, and those of the other word are moved behind them.
use Rattle.vob_matrix.proofs.TileLemmas.{JoinsFirst-joined}
use Rattle.vob_matrix.proofs.tiles.join_first.Goals as goal

pub returns : goal.returns
returns c = λ pairs whole has.
    JoinsFirst-joined c.args.group pairs c.args.mask whole has c.args.low c.args.high _ _ _ _
    c.band.ensures.places c.band-2.ensures.places c.up.ensures.places c.bor.ensures.places
