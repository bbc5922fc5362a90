-- The bits are read before they are written.
use Rattle.std.proofs.Common.{map}
use Rattle.vob_store.proofs.shift.move_part.Goals as goal

pub returns : goal.returns
returns g c = c.write_part.ensures (map g.T.BitBlock.number c.args.own.now) c.args.cut.start
    (rw c.new.ensures.items at c.bits_at-bits.ensures.places)
