-- The words are the packing of the bits.
use Rattle.vob_c.proofs.FoundLemmas.{rank_found}
use Rattle.vob_c.proofs.counts.rank_index.Goals as goal

pub returns-clause-rank : goal.returns-clause-rank
returns-clause-rank c = rank_found _ _ _ c.requires c.new.ensures.items c.args.rank _ _
    c.unwrap_or.ensures c.index_of_rank-found.ensures.found
