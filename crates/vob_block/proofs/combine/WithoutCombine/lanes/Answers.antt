-- Each lane is combined place by place.
use Rattle.std.proofs.Common.{sym, ◌∙◌}
use Rattle.vob_block.proofs.LaneLemmas.{lanes-without, zip-undone}
use Rattle.vob_block.proofs.combine.WithoutCombine.lanes.Goals as goal

pub returns-clause-combined : goal.returns-clause-combined
returns-clause-combined c =
    lanes-without c.args.own c.args.others (c.fits-own.0 ∙ sym c.fits-others.0)

pub returns-clause-differs : goal.returns-clause-differs
returns-clause-differs c = zip-undone c.args.own c.args.others
