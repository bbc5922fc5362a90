-- The law, by the one way in which words are read.
use Rattle.files_condition.proofs.CompleteLemmas.{conditions_one}
use Rattle.files_condition.proofs.laws.conditions_are_one.Goals as goal

pub returns : goal.returns
returns c = conditions_one
