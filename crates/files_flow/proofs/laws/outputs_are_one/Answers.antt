-- The law, by the one solution of each problem.
use Rattle.files_flow.proofs.OneOutputLemmas.{outputs_one}
use Rattle.files_flow.proofs.laws.outputs_are_one.Goals as goal

pub returns : goal.returns
returns c = outputs_one
