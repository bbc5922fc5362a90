-- The blocks are the packing of the bits.
use Rattle.std.proofs.Common.{◌∙◌, arith, sym}
use Rattle.std.proofs.lemmas.List.{length-map}
use Rattle.vob_block.proofs.PackingLemmas.{packing_is}
use Rattle.vob_walk.proofs.WalkLemmas.{walk_runs, walk_runs_back}
use Rattle.vob.proofs.FreshLemmas.{fresh, fresh_some, few_left}
use Rattle.vob.proofs.vob.Vob.iter_set_bits.Goals as goal

pub over-requires : goal.over-requires
over-requires g c = sym (length-map c.blocks-2.result.items g.T.BitBlock.number) ∙ (packing_is _
    g.met.T.BitBlock.wide_law _ _ _ c.blocks-2.ensures.blocks (sym c.len.ensures.len)).canonical.count

pub returns-clause-fresh : goal.returns-clause-fresh
returns-clause-fresh g c = λ in_range. fresh _ g.met.T.BitBlock.wide_law _ c.blocks-2.ensures.blocks
    c.len.ensures.len (c.over.ensures.reads ∙ c.blocks-2.ensures.reads) (c.over.ensures.whole in_range)

pub returns-clause-some : goal.returns-clause-some
returns-clause-some g c = fresh_some _ g.met.T.BitBlock.wide_law _ c.blocks-2.ensures.blocks
    c.len.ensures.len (c.over.ensures.reads ∙ c.blocks-2.ensures.reads) c.over.ensures.some

pub returns-clause-most : goal.returns-clause-most
returns-clause-most g c = few_left _ g.met.T.BitBlock.wide_law _ c.blocks-2.ensures.blocks
    c.len.ensures.len (c.over.ensures.reads ∙ c.blocks-2.ensures.reads) c.over.ensures.some

pub returns-clause-longest : goal.returns-clause-longest
returns-clause-longest g c =
    let few = returns-clause-most g c in
    omega (arith, few, c.len.ensures.len, c.len.ensures.greatest)

pub returns-clause-runs : goal.returns-clause-runs
returns-clause-runs g c = walk_runs

pub returns-clause-runs_back : goal.returns-clause-runs_back
returns-clause-runs_back g c = walk_runs_back
