-- Each bit is where the list says.
use Rattle.vob.proofs.MovesLemmas.{IsInserted-removed}
use Rattle.vob.proofs.vob.Vob.remove.Goals as goal

pub returns-clause-each : goal.returns-clause-each
returns-clause-each g c = rw c.get_unchecked-bit.ensures.item
    (IsInserted-removed c.args.index c.requires.in_range c.remove_from.ensures.bits)
