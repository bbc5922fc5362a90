-- By the lemmas on two arrays of words.
use Rattle.std.proofs.Common.{◌∙◌, arith}
use Rattle.vob_c.proofs.FoundLemmas.{ones_found, ones_most}
use Rattle.vob_c.proofs.counts.ones_of.Goals as goal

pub count_combined-requires-clause-fits : goal.count_combined-requires-clause-fits
count_combined-requires-clause-fits g c = omega (
  arith,
  ones_most _ _ _ c.requires.own c.requires.other g.C.Combine.of_bits c.requires.none _
      c.new.ensures.items,
)

pub returns : goal.returns
returns g c = c.count_combined.ensures.ones ∙ ones_found _ _ _ c.requires.own c.requires.other
    g.C.Combine.of_bits c.requires.none _ c.new.ensures.items
