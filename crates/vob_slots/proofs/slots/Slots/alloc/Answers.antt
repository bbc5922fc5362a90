-- One slot more is taken.
use Rattle.std.proofs.Common.{false, arith, refl}
use Rattle.vob_slots.proofs.RoomLemmas.{rooms_taken}
use Rattle.vob_slots.proofs.slots.Slots.alloc.Goals as goal

pub invariant_of-self : goal.invariant_of-self
invariant_of-self c =
    let bits = c.self.inside.taken in
    let written = c.set.ensures.written in
    let found = (c.in-Some.ensures.next.some c.in-Some.slot).0 refl in record {
      count = omega (arith, rw found.there at written.count false, c.self.invariant.count);
      rooms = rooms_taken c.self.inside.row c.self.inside.room c.in-Some.slot bits c.set.new.self
          c.self.invariant.rooms written;
    }
