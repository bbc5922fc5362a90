-- The law, by the one tree of a parse.
use Rattle.files_parse.proofs.LawLemmas.{outputs_one}
use Rattle.files_parse.proofs.laws.outputs_are_one.Goals as goal

pub returns : goal.returns
returns c = outputs_one c.parses_have_one_tree.ensures
