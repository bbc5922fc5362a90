-- The row was free, so as many fewer are.
use Rattle.std.proofs.Common.{◌+◌, replicate, true, ap, ◌∙◌, arith}
use Rattle.vob_slots.proofs.RoomLemmas.{rooms_behind}
use Rattle.vob_slots.proofs.SlotsLemmas.{row_is, count-taken_run}
use Rattle.vob.specs.Ranges.{replaced}
use Rattle.vob_slots.proofs.slots.Slots.alloc_run.Goals as goal

pub overflow_sub-self : goal.overflow_sub-self
overflow_sub-self c =
    let start = c.in-Some.start in
    let room = (rw c.bits.ensures at c.in-Some.ensures).there in
    let fewer = count-taken_run c.self.inside.taken c.set_range.new.self start
    c.args.count room
    c.set_range.ensures.bits in
    omega (arith, fewer, c.self.invariant.count)

pub room_from-start-requires-clause-below : goal.room_from-start-requires-clause-below
room_from-start-requires-clause-below c = rw (c.bits.ensures, c.self.view_is) c.least_room.ensures

pub invariant_of-self : goal.invariant_of-self
invariant_of-self c = record {
  count = c.self.invariant.count;
  rooms = λ j there. absurd ((rw c.bits.ensures at c.in_default.ensures).none j there);
}

pub invariant_of-self-2 : goal.invariant_of-self-2
invariant_of-self-2 c =
    let start = c.in-Some.start in
    let room = (rw c.bits.ensures at c.in-Some.ensures).there in
    let fewer = count-taken_run c.self.inside.taken c.set_range.new.self start
    c.args.count room
    c.set_range.ensures.bits in
    record {
      count = omega (arith, fewer, c.self.invariant.count);
      rooms = rooms_behind c.args.count start c.self.inside.taken c.set_range.new.self (omega (arith, c.if-count-eq0.false))
          (rw c.bits.ensures at c.in-Some.ensures) c.set_range.ensures.each;
    }

pub returns-clause-taken : goal.returns-clause-taken
returns-clause-taken c =
    let start = c.in-Some.start in
    let room = (rw c.bits.ensures at c.in-Some.ensures).there in
    row_is true c.self.inside.taken c.set_range.new.self start c.args.count
    c.set_range.ensures.bits
    ∙ ap (λ bits. replaced start (start + c.args.count)
    (replicate c.args.count true) bits) c.self.view_is
