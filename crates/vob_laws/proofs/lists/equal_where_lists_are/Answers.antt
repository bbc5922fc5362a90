-- By the test of two bits.
use Rattle.vob.proofs.SameLemmas.{same_bits_decides}
use Rattle.vob_laws.proofs.lists.equal_where_lists_are.Goals as goal

pub returns : goal.returns
returns c = same_bits_decides
