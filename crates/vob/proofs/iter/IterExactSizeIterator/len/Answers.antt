-- As many bits are left as there are indices.
use Rattle.std.proofs.Common.{sym}
use Rattle.vob.proofs.RestLemmas.{length-bits_between}
use Rattle.vob.proofs.iter.IterExactSizeIterator.len.Goals as goal

pub returns-clause-value : goal.returns-clause-value
returns-clause-value g c = rw (← c.self.view_is) (sym (length-bits_between _ _ _ _))
