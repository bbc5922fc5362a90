-- What is missing from a set is in none of the solutions.
use Rattle.vob_flow.proofs.AvailableLemmas.{within_greatest}
use Rattle.vob_flow.proofs.laws.greatest_is_greatest_solution.Goals as goal

pub returns : goal.returns
returns c = within_greatest
