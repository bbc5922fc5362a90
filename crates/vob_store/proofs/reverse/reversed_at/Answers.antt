-- The bits past them are moved out.
use Rattle.std.proofs.Common.{map}
use Rattle.vob_store.proofs.ReversingLemmas.{reversed-low}
use Rattle.vob_store.proofs.reverse.reversed_at.Goals as goal

pub returns : goal.returns
returns g c = reversed-low g.T.BitBlock.BITS c.args.count c.args.from _ _ _
    (map g.T.BitBlock.number c.args.own.now) c.requires.some c.requires.few
    (rw c.new.ensures.items at c.bits_at.ensures.places) c.reversed.ensures
    (rw c.BITS-width.ensures at c.down.ensures.places)
