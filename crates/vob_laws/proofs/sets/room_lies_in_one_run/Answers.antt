-- The run that has the first of these bits has all of them: the bit at its end is set.
use Rattle.vob.proofs.RoomLemmas.{room-in_run}
use Rattle.vob_laws.proofs.sets.room_lies_in_one_run.Goals as goal

pub returns : goal.returns
returns c = room-in_run
