-- The bits are moved down, and those at the end become unset.
use Rattle.std.proofs.Common.{arith}
use Rattle.vob.proofs.MovesLemmas.{IsMovedDown-by, moved_down}
use Rattle.vob.proofs.vob.Vob.shr.Goals as goal

pub returns-clause-each : goal.returns-clause-each
returns-clause-each g c = IsMovedDown-by c.args.n c.min-by.result _ _
    (omega (arith, c.len.ensures.len, c.min-by.ensures)) (omega (arith, c.len-2.ensures.len))
    (omega (arith, c.len-2.ensures.len, c.len-3.ensures.len)) c.move_between.ensures.each
    (c.set_range.ensures.each tt)

pub returns-clause-bits : goal.returns-clause-bits
returns-clause-bits g c = moved_down c.args.n (returns-clause-each g c)
