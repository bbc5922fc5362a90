-- A lemma on lists.
use Rattle.std.proofs.lemmas.List.{take-append-drop}
use Rattle.vob_laws.proofs.lists.join_undoes_cut.Goals as goal

pub returns : goal.returns
returns c = λ bits at. take-append-drop at bits
