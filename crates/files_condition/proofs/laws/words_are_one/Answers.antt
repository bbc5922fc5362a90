-- The law, by the byte that begins each word.
use Rattle.files_condition.proofs.OneLemmas.{words_of_one}
use Rattle.files_condition.proofs.laws.words_are_one.Goals as goal

pub returns : goal.returns
returns c = words_of_one
