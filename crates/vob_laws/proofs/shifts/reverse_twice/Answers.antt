-- A lemma on lists.
use Rattle.std.proofs.lemmas.List.{reverse-reverse}
use Rattle.vob_laws.proofs.shifts.reverse_twice.Goals as goal

pub returns : goal.returns
returns c = reverse-reverse
