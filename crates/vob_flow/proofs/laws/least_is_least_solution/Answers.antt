-- What comes to a set is in it in every solution.
use Rattle.vob_flow.proofs.LawLemmas.{within_solution}
use Rattle.vob_flow.proofs.laws.least_is_least_solution.Goals as goal

pub returns : goal.returns
returns c = λ next mask starts sets others least solution n v e.
    within_solution next mask starts others solution (least.least n v e)
