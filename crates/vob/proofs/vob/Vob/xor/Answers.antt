-- That the flag counts, by what both leave. The other clauses are those of the call to combine.
use Rattle.vob.proofs.BitsLemmas.{same_by_flag}
use Rattle.vob.proofs.vob.Vob.xor.Goals as goal

pub returns-clause-same : goal.returns-clause-same
returns-clause-same g c = same_by_flag _ _ _ c.combine.ensures.changed
