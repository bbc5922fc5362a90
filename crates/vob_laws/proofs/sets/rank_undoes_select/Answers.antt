-- The second fact of the index that is selected.
use Rattle.std.proofs.Common.{refl}
use Rattle.vob_laws.proofs.sets.rank_undoes_select.Goals as goal

pub returns : goal.returns
returns c = λ bits k i selected. ((selected.some i).0 refl).below
