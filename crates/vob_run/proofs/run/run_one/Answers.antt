-- What a command lends is lent as it is.
use Rattle.vob_run.proofs.run.run_one.Goals as goal

pub returns-in-FromRaw : goal.returns-in-FromRaw
returns-in-FromRaw g c = rw (c.in-FromRaw.is, ← c.deref.ensures.value) c.from_raw.ensures
