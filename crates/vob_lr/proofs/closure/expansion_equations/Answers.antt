-- Sets that had nothing have what opens rules.
use Rattle.std.proofs.Common.{◌∙◌, length, refl}
use Rattle.vob_lr.specs.Expansions.{Expands}
use Rattle.vob_lr.proofs.ClosureLemmas.{HasOpening-all}
use Rattle.vob_lr.proofs.EquationLemmas.{AreEquations-gained, GainEach-as}
use Rattle.vob_lr.proofs.closure.expansion_equations.Goals as goal

pub returns : goal.returns
returns c =
    let rules = c.args.grammar.now.rules.items in
    let made = c.in_ok-equations.ensures in
    let len = rw c.requires.items at c.len.ensures in
    AreEquations-gained _ _ (rw len at made.starts) (made.places ∙ len) made.edges
    (GainEach-as (Expands rules) c.in_ok-open_rules.ensures (HasOpening-all rules (length rules) refl))
