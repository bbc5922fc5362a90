-- The law, by the first word that can't be read.
use Rattle.files_condition.proofs.ExactLemmas.{faults_one}
use Rattle.files_condition.proofs.laws.faults_are_one.Goals as goal

pub returns : goal.returns
returns c = faults_one
