-- Past the length nothing is there.
use Rattle.std.proofs.Common.{sym}
use Rattle.vob_store.proofs.StorageLemmas.{past_unpacking}
use Rattle.vob_rows.proofs.row.Row.get.Goals as goal

pub returns-else-index-self : goal.returns-else-index-self
returns-else-index-self g c = rw (← c.self.view_is)
    (sym (past_unpacking _ _ _ _ c.if-index-self.false))
