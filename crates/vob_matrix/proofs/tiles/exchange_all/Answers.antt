-- The words of a pair of groups lie within the tile.
use Rattle.vob_matrix.proofs.TileLemmas.{IsStage-start, IsStage-more}
use Rattle.vob_matrix.proofs.tiles.exchange_all.Goals as goal

pub loop-pair-init : goal.loop-pair-init
loop-pair-init c = IsStage-start c.args.group c.args.pairs _

pub loop-pair-preserved : goal.loop-pair-preserved
loop-pair-preserved c =
    IsStage-more c.args.group c.args.pairs c.loop-pair.pair _ _ _ c.loop-pair.invariant
    (c.exchange_groups.ensures c.args.pairs c.requires.whole c.requires.mask)
