-- The quotient rounded up is enough, and no more than needed.
use Rattle.std.proofs.Common.{sym, ◌∙◌}
use Rattle.std.proofs.lemmas.Grind.{div_ceil_times}
use Rattle.vob_block.proofs.NeedLemmas.{need_is}
use Rattle.vob_store.proofs.room.block_count.Goals as goal

pub returns : goal.returns
returns g c =
    let times = div_ceil_times c.args.len g.T.BitBlock.BITS g.met.T.BitBlock.wide_law in
    rw c.BITS.ensures at c.div_ceil.ensures ∙ sym
    (need_is g.T.BitBlock.BITS g.met.T.BitBlock.wide_law c.args.len _ times.0 times.1)
