-- By the lemma on two arrays of words.
use Rattle.vob_c.proofs.FoundLemmas.{none_found}
use Rattle.vob_c.proofs.compare.none_of.Goals as goal

pub returns : goal.returns
returns g c = none_found _ _ _ c.requires.own c.requires.other g.C.Combine.of_bits c.requires.none _
    c.new.ensures.items _ c.has_none.ensures.none
