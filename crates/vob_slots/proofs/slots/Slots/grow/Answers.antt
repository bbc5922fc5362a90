-- The slots that were there stay, and those behind them are free.
use Rattle.std.proofs.Common.{◌≡◌, ◌++◌, false, replicate, length, arith}
use Rattle.vob_slots.proofs.RoomLemmas.{grown_count, grown_same, rooms_lower}
use Rattle.vob_slots.proofs.slots.Slots.grow.Goals as goal

pub invariant_of-self-2 : goal.invariant_of-self-2
invariant_of-self-2 c =
    let bits = c.self.inside.taken in
    let after = c.grow.new.self in
    let more = c.args.more in
    let whole : after ≡ bits ++ replicate more false = c.in_ok-grow.ensures.ok in record {
      count = omega (arith, grown_count bits after more whole, c.self.invariant.count);
      rooms = rooms_lower c.self.inside.row c.self.inside.room bits after c.self.invariant.rooms
          (length bits) c.min-self-inside.result (omega arith) (grown_same bits after more whole)
          (omega (arith, c.min-self-inside.ensures))
          (omega (arith, c.min-self-inside.ensures, c.saturating_sub.ensures, c.len-len.ensures));
    }
