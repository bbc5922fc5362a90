-- Those that were taken in the row are free now, and no slot below it changed.
use Rattle.std.proofs.Common.{◌+◌, length, replicate, false, ap, ◌∙◌, arith}
use Rattle.std.proofs.lemmas.List.Sums.{count_by-le-length}
use Rattle.vob_walk.specs.Matches.{has_value}
use Rattle.vob.specs.Ranges.{replaced}
use Rattle.vob_slots.proofs.SlotsLemmas.{row_is, below_start, count-given_run}
use Rattle.vob_slots.proofs.RoomLemmas.{rooms_lower}
use Rattle.vob_slots.proofs.slots.Slots.free_run.Goals as goal

pub overflow_add-self : goal.overflow_add-self
overflow_add-self c =
    let more = count-given_run c.self.inside.taken c.set_range.new.self c.args.start
    (c.args.start + c.args.count) c.count-given.result c.set_range.ensures.each
    (c.count-given.ensures ∙ ap length (rw c.bits.ensures at (c.iter_set_bits.ensures.fresh tt).whole.rest)) in
    let few = count_by-le-length (has_value false) c.set_range.new.self in
    omega (arith, more, few, c.self.invariant.count, c.set_range.ensures.each.len, c.len-len.ensures)

pub invariant_of-self : goal.invariant_of-self
invariant_of-self c =
    let end = c.args.start + c.args.count in
    let more = count-given_run c.self.inside.taken c.set_range.new.self c.args.start end
    c.count-given.result c.set_range.ensures.each
    (c.count-given.ensures ∙ ap length (rw c.bits.ensures at (c.iter_set_bits.ensures.fresh tt).whole.rest)) in
    record {
      count = omega (arith, more, c.self.invariant.count);
      rooms = rooms_lower c.self.inside.row c.self.inside.room c.self.inside.taken c.set_range.new.self
          c.self.invariant.rooms c.args.start c.min-self-inside.result
          (omega (arith, c.requires, ap length c.self.view_is))
          (λ i less. c.set_range.ensures.each.outside i (below_start c.args.start end i less))
          (omega (arith, c.min-self-inside.ensures))
          (omega (arith, c.min-self-inside.ensures, c.saturating_sub.ensures));
    }

pub returns : goal.returns
returns c =
    let end = c.args.start + c.args.count in
    row_is false c.self.inside.taken c.set_range.new.self c.args.start c.args.count
    c.set_range.ensures.bits
    ∙ ap (λ bits. replaced c.args.start end (replicate c.args.count false) bits) c.self.view_is
