-- By the lemma on lanes.
use Rattle.vob_block.proofs.LaneLemmas.{Takes-lanes}
use Rattle.vob_block.proofs.lanes.combine_chunk.Goals as goal

pub returns-clause-taken : goal.returns-clause-taken
returns-clause-taken g c =
    let made = c.lanes.ensures in
    Takes-lanes g.C.Combine.of_bits c.args.other.now.items c.args.own.now c.args.changed
    c.lanes.result.0 c.args.at c.requires.own c.requires.other c.fits-changed.0
    (rw c.chunk.ensures.blocks at made.combined) c.lanes.result.1 made.differs c.in_range.ensures
