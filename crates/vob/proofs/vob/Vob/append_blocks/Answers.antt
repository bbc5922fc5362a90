-- Room for so many bits is room in the blocks.
use Rattle.std.proofs.Common.{arith}
use Rattle.vob_block.proofs.PackingLemmas.{length-unpacking}
use Rattle.vob.proofs.vob.Vob.append_blocks.Goals as goal

pub join-requires-clause-fits : goal.join-requires-clause-fits
join-requires-clause-fits g c = let room =
    rw (← c.self.view_is, length-unpacking) at c.requires.room in omega (arith, room)

pub join-requires-clause-room : goal.join-requires-clause-room
join-requires-clause-room g c = let room = rw (← c.self.view_is, length-unpacking) at
    c.requires.room in omega (arith, room)

pub overflow_add-self : goal.overflow_add-self
overflow_add-self g c = let room = rw (← c.self.view_is, length-unpacking) at c.requires.room in
    omega (arith, room)
