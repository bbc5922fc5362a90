-- No slot below the first free one begins a room, nor one below the last room if it wasn't longer.
use Rattle.std.proofs.Common.{◌∙◌, ap, arith}
use Rattle.std.specs.Option.{unwrap_or}
use Rattle.vob_slots.proofs.RoomLemmas.{rooms_next, rooms_wide}
use Rattle.vob_slots.proofs.slots.Slots.least_room.Goals as goal

pub returns : goal.returns
returns c = rw (← c.self.view_is) (λ j there. omega (
  arith,
  c.unwrap_or-first.ensures ∙ ap (unwrap_or c.first_unset.result) c.len.ensures,
  rooms_next c.args.count c.self.inside.taken c.first_unset.result c.requires c.first_unset.ensures.next j there,
  rooms_wide c.self.inside.row c.args.count c.self.inside.room c.self.inside.taken (omega (arith, c.if-count-self.false))
      c.self.invariant.rooms j there,
  c.max.ensures,
))
