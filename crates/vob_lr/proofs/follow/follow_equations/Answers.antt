-- Sets that had nothing have what stands behind nonterminals in all rules.
use Rattle.vob_lr.proofs.EquationLemmas.{AreEquations-gained}
use Rattle.vob_lr.proofs.follow.follow_equations.Goals as goal

pub returns : goal.returns
returns c =
    let made = c.in_ok-equations.ensures in
    AreEquations-gained _ _ made.starts made.places made.edges c.in_ok-add_rules.ensures
