-- The law, by the one terminal that a word names.
use Rattle.files_parse.proofs.LawLemmas.{tokens_one}
use Rattle.files_parse.proofs.laws.tokens_are_one.Goals as goal

pub returns : goal.returns
returns c = tokens_one
