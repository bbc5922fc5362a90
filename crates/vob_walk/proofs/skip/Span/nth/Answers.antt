-- By either end.
use Rattle.std.proofs.Common.{arith}
use Rattle.vob_walk.specs.Skip.{from_end}
use Rattle.vob_walk.proofs.skip.Span.nth.Goals as goal

pub returns-in-Front-clause-number : goal.returns-in-Front-clause-number
unfolding from_end
returns-in-Front-clause-number c = rw c.in-Front.is (omega arith)

pub returns-in-Back-clause-number : goal.returns-in-Back-clause-number
unfolding from_end
returns-in-Back-clause-number c = rw c.in-Back.is (omega arith)
