-- No more bits are true in a window than it has.
use Rattle.std.proofs.Common.{map, arith}
use Rattle.vob_walk.proofs.CountLemmas.{ones-le}
use Rattle.vob_walk.proofs.count.count_ones_in.Goals as goal

pub returns-clause-most : goal.returns-clause-most
returns-clause-most g c =
    let most = ones-le g.T.BitBlock.BITS (map g.T.BitBlock.number c.args.blocks.now.items)
    c.args.start c.args.stop in
    omega (arith, most, c.count_ones.ensures.ones)
