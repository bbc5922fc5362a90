-- The law, by the one keyword that a text can begin with.
use Rattle.files_dot.proofs.OneGraphLemmas.{notations_one}
use Rattle.files_dot.proofs.laws.notations_are_one.Goals as goal

pub returns : goal.returns
returns c = notations_one
