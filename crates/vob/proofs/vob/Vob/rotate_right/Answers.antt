-- Each bit of the list stands where it should.
use Rattle.std.proofs.Common.{arith}
use Rattle.vob.proofs.TurnsLemmas.{IsRotated-back, IsRotated-moved}
use Rattle.vob.proofs.vob.Vob.rotate_right.Goals as goal

pub returns-then-len-gt0-clause-each : goal.returns-then-len-gt0-clause-each
returns-then-len-gt0-clause-each g c = IsRotated-back c.args.n
    (omega (arith, c.if-len-gt0.true, c.len-len.ensures.len))
    (rw c.len-len.ensures.len at c.rotate_by.ensures.bits)

pub returns-then-len-gt0-clause-moved : goal.returns-then-len-gt0-clause-moved
returns-then-len-gt0-clause-moved g c = IsRotated-moved c.args.n
    (omega (arith, c.if-len-gt0.true, c.len-len.ensures.len))
    (rw c.len-len.ensures.len at c.rotate_by.ensures.bits)
