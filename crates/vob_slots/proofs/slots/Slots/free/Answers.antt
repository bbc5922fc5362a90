-- The slot was taken, so one more is free than before, and no more are than there are.
use Rattle.std.specs.Prelude.{false}
use Rattle.std.proofs.Common.{sym, ◌∙◌, arith}
use Rattle.std.proofs.lemmas.List.Sums.{count_by-le-length}
use Rattle.vob_walk.specs.Matches.{has_value}
use Rattle.vob_block.proofs.BoolLemmas.{differ-false}
use Rattle.vob_slots.proofs.RoomLemmas.{rooms_lower}
use Rattle.vob_slots.proofs.slots.Slots.free.Goals as goal

pub overflow_add-self : goal.overflow_add-self
overflow_add-self c =
    let taken = sym (differ-false _) ∙ sym c.set.ensures.differs ∙ c.if-not-set.false in
    let more = rw taken at c.set.ensures.written.count false in
    let few = count_by-le-length (has_value false) c.set.new.self in
    omega (arith, more, few, c.set.ensures.written.len, c.self.invariant.count, c.len.ensures)

pub invariant_of-self-2 : goal.invariant_of-self-2
invariant_of-self-2 c =
    let taken = sym (differ-false _) ∙ sym c.set.ensures.differs ∙ c.if-not-set.false in
    let bits = c.self.inside.taken in
    let written = c.set.ensures.written in record {
      count = omega (arith, rw taken at written.count false, c.self.invariant.count);
      rooms = rooms_lower c.self.inside.row c.self.inside.room bits c.set.new.self c.self.invariant.rooms
          c.args.slot c.min-self-inside.result (omega (arith, c.if-slot-len.false, c.len.ensures))
          (λ i less. written.others i (λ e. omega (arith, e, less)))
          (omega (arith, c.min-self-inside.ensures))
          (omega (arith, c.min-self-inside.ensures, c.saturating_sub.ensures));
    }
