-- Behind the last bit there is one more, the others are moved up by one, and the bit is set.
use Rattle.vob.proofs.MovesLemmas.{IsInserted-by, inserted}
use Rattle.vob.proofs.vob.Vob.insert_bit.Goals as goal

pub returns-clause-each : goal.returns-clause-each
returns-clause-each g c = IsInserted-by c.args.index c.args.value c.in_ok-push.ensures.ok
    c.requires.in_range (rw c.len-len.ensures.len at c.move_between.ensures.each)
    c.set.ensures.written

pub returns-clause-ok : goal.returns-clause-ok
returns-clause-ok g c = inserted c.args.index c.args.value c.requires.in_range
    (returns-clause-each g c)
