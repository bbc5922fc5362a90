-- The slot was free, so one fewer is.
use Rattle.std.proofs.Common.{◌≡◌, ◌∙◌, false, sym, arith}
use Rattle.vob_block.specs.Packing.{item}
use Rattle.vob_slots.proofs.RoomLemmas.{rooms_taken, was_free}
use Rattle.vob_slots.proofs.slots.Slots.take.Goals as goal

pub invariant_of-self-2 : goal.invariant_of-self-2
invariant_of-self-2 c =
    let bits = c.self.inside.taken in
    let written = c.set.ensures.written in
    let free : item bits c.args.slot ≡ false = was_free (item bits c.args.slot) (sym c.set.ensures.differs ∙ c.if-not-set.false) in
    record {
      count = omega (arith, rw free at written.count false, c.self.invariant.count);
      rooms = rooms_taken c.self.inside.row c.self.inside.room c.args.slot bits c.set.new.self
          c.self.invariant.rooms written;
    }
