-- The law, by one cut of a text into pieces.
use Rattle.files_dot.proofs.OneTokenLemmas.{tokens_one}
use Rattle.files_dot.proofs.laws.tokens_are_one.Goals as goal

pub returns : goal.returns
returns c = tokens_one
