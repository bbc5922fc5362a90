-- The least sets that have the heads are the first sets, and there are none without nonterminals.
use Rattle.std.proofs.Common.{◌∙◌}
use Rattle.vob_lr.proofs.FirstLemmas.{AreFirst-solved}
use Rattle.vob_lr.proofs.first.solve_first.Goals as goal

pub returns-clause-first : goal.returns-clause-first
returns-clause-first c =
    let sets = c.in_ok-sets.ensures in
    AreFirst-solved _ _ c.requires.nullable _ c.in_ok-equations.ensures sets.count sets.long sets.solved

pub returns-clause-columns : goal.returns-clause-columns
returns-clause-columns c = c.in_ok-sets.ensures.columns ∙ c.in_ok-equations.ensures.width
