-- Each bit is written over the other, after both were read.
use Rattle.vob.proofs.MovesLemmas.{AreSwapped-by}
use Rattle.vob.proofs.vob.Vob.swap.Goals as goal

pub returns-clause-each : goal.returns-clause-each
returns-clause-each g c = AreSwapped-by c.args.first c.args.second c.get_unchecked-bit.ensures.item
    c.get_unchecked-other.ensures.item c.set.ensures.written c.set-2.ensures.written
