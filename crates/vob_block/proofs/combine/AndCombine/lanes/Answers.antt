-- Each lane is combined place by place.
use Rattle.std.proofs.Common.{sym, ◌∙◌}
use Rattle.vob_block.proofs.LaneLemmas.{lanes-and}
use Rattle.vob_block.proofs.combine.AndCombine.lanes.Goals as goal

pub returns-clause-combined : goal.returns-clause-combined
returns-clause-combined c =
    lanes-and c.args.own c.args.others (c.fits-own.0 ∙ sym c.fits-others.0)
