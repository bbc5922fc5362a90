-- The words are the packing of the bits.
use Rattle.vob_c.proofs.FoundLemmas.{previous_found}
use Rattle.vob_c.proofs.search.previous_or_end.Goals as goal

pub returns-clause-previous : goal.returns-clause-previous
returns-clause-previous c = previous_found _ _ _ c.requires c.new.ensures.items c.args.value c.args.upto
    _ _ c.unwrap_or.ensures c.previous_index-found.ensures.found
