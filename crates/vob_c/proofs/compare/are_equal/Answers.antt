-- Equal words hold equal bits, and the other way round.
use Rattle.std.proofs.lemmas.List.{map-id}
use Rattle.vob_c.proofs.FoundLemmas.{equal_found}
use Rattle.vob_c.proofs.compare.are_equal.Goals as goal

pub returns : goal.returns
returns c = equal_found _ _ _ c.requires.own c.requires.other _ (simp map-id at c.same_blocks.ensures)
