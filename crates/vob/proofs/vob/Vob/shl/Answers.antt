-- The bits are moved up, and those below become unset.
use Rattle.std.proofs.Common.{arith}
use Rattle.vob.proofs.MovesLemmas.{IsMovedUp-by, moved_up}
use Rattle.vob.proofs.vob.Vob.shl.Goals as goal

pub returns-clause-each : goal.returns-clause-each
returns-clause-each g c = IsMovedUp-by c.args.n c.min-by.result _
    (omega (arith, c.len.ensures.len, c.min-by.ensures)) (omega (arith, c.len-2.ensures.len))
    c.move_between.ensures.each (c.set_range.ensures.each tt)

pub returns-clause-bits : goal.returns-clause-bits
returns-clause-bits g c = moved_up c.args.n (returns-clause-each g c)
