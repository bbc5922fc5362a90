-- All bits are those from index 0 to below the length.
use Rattle.vob.proofs.TurnsLemmas.{reversed, IsReversed-all}
use Rattle.vob.proofs.vob.Vob.reverse.Goals as goal

pub returns-clause-each : goal.returns-clause-each
returns-clause-each g c = IsReversed-all c.len.result c.len.ensures.len c.reverse_between.ensures.each

pub returns-clause-bits : goal.returns-clause-bits
returns-clause-bits g c = reversed (returns-clause-each g c)
