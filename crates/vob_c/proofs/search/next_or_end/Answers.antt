-- The words are the packing of the bits.
use Rattle.vob_c.proofs.FoundLemmas.{next_found}
use Rattle.vob_c.proofs.search.next_or_end.Goals as goal

pub returns-clause-next : goal.returns-clause-next
returns-clause-next c = next_found _ _ _ c.requires c.new.ensures.items c.args.value c.args.from _ _
    c.unwrap_or.ensures c.next_index-found.ensures.found
