-- The law, as all words of a condition can be read.
use Rattle.files_condition.proofs.ExactLemmas.{no_fault}
use Rattle.files_condition.proofs.laws.conditions_have_no_fault.Goals as goal

pub returns : goal.returns
returns c = no_fault
