-- The bits after are moved down, and as many at the end are cut off.
use Rattle.vob.proofs.MovesLemmas.{closed_up}
use Rattle.vob.proofs.vob.Vob.remove_from.Goals as goal

pub returns-clause-bits : goal.returns-clause-bits
returns-clause-bits g c = closed_up c.args.at c.args.count c.len-len.result c.requires.inside
    c.len-len.ensures.len c.move_between.ensures.each c.truncate.ensures.bits
