-- The nodes are those that the search reaches.
use Rattle.std.proofs.Common.{◌+◌, length, arith}
use Rattle.vob_flow.proofs.SpreadLemmas.{numbers_inside, spread_from}
use Rattle.vob_flow.proofs.touched.touched_nodes.Goals as goal

pub reach-requires : goal.reach-requires
reach-requires c = rw (c.deref.ensures.value, c.in_ok-from.ensures)
    (numbers_inside (c.args.nodes + c.args.start) c.args.count (c.args.nodes + c.args.places) (length c.args.spread.now)
    (omega (arith, c.requires.size, c.requires.inside)) (omega (arith, c.requires.size)))

pub returns : goal.returns
returns c = rw c.in_ok-list.ensures (spread_from c.args.spread.now c.args.nodes c.args.places c.args.start c.args.count _ c.requires.size
    (rw (c.deref.ensures.value, c.in_ok-from.ensures) at c.in_ok-touched.ensures))
