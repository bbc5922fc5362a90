-- The list that the blocks unpack to is as long as the length says.
use Rattle.vob_block.proofs.PackingLemmas.{length-unpacking}
use Rattle.vob.proofs.vob.Vob.is_empty.Goals as goal

pub returns : goal.returns
returns g c = rw (← c.self.view_is, length-unpacking)
