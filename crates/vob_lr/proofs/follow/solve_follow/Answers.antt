-- The least sets that have what stands behind are the follow sets, and there are none without
-- nonterminals.
use Rattle.std.proofs.Common.{◌∙◌}
use Rattle.vob_lr.proofs.FollowLemmas.{AreFollow-solved}
use Rattle.vob_lr.proofs.follow.solve_follow.Goals as goal

pub returns-clause-follow : goal.returns-clause-follow
returns-clause-follow c =
    let sets = c.in_ok-sets.ensures in
    AreFollow-solved _ _ c.in_ok-equations.ensures sets.count sets.long sets.solved

pub returns-clause-columns : goal.returns-clause-columns
returns-clause-columns c = c.in_ok-sets.ensures.columns ∙ c.in_ok-equations.ensures.width
