-- The law, by the one list of a text's tokens.
use Rattle.files_dot.proofs.OneGraphLemmas.{texts_one}
use Rattle.files_dot.proofs.laws.texts_say_one.Goals as goal

pub returns : goal.returns
returns c = texts_one
