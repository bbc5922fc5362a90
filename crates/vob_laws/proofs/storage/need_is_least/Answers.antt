-- By the division that the need is.
use Rattle.vob_block.proofs.NeedLemmas.{need_enough, need_least}
use Rattle.vob_laws.proofs.storage.need_is_least.Goals as goal

pub returns : goal.returns
returns c = λ w n wide. (need_enough w wide n, need_least w wide n)
