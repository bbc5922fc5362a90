-- The blocks are the packing of the bits.
use Rattle.std.proofs.Common.{◌∙◌}
use Rattle.vob.proofs.FreshLemmas.{fresh, fresh_some, few_left}
use Rattle.vob_rows.proofs.row.Row.iter_set_bits.Goals as goal

pub returns-clause-fresh : goal.returns-clause-fresh
returns-clause-fresh g c = λ in_range. fresh _ g.met.T.BitBlock.wide_law _ c.blocks-2.ensures.blocks
    c.len.ensures (c.over.ensures.reads ∙ c.blocks-2.ensures.reads) (c.over.ensures.whole in_range)

pub returns-clause-some : goal.returns-clause-some
returns-clause-some g c = fresh_some _ g.met.T.BitBlock.wide_law _ c.blocks-2.ensures.blocks
    c.len.ensures (c.over.ensures.reads ∙ c.blocks-2.ensures.reads) c.over.ensures.some

pub returns-clause-most : goal.returns-clause-most
returns-clause-most g c = few_left _ g.met.T.BitBlock.wide_law _ c.blocks-2.ensures.blocks
    c.len.ensures (c.over.ensures.reads ∙ c.blocks-2.ensures.reads) c.over.ensures.some
