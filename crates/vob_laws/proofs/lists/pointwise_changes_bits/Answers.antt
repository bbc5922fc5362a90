-- Two lists combined are as long as each.
use Rattle.vob_laws.proofs.ChangeLemmas.{unequal_decides}
use Rattle.vob_block.proofs.PointwiseLemmas.{length-pointwise}
use Rattle.vob_laws.proofs.lists.pointwise_changes_bits.Goals as goal

pub returns : goal.returns
returns c = λ f bits others same. unequal_decides _ bits (length-pointwise f bits others same)
