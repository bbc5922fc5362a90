-- The least sets that draw so are the expansions.
use Rattle.vob_lr.proofs.ClosureLemmas.{AreExpansions-solved}
use Rattle.vob_lr.proofs.closure.expansions_of.Goals as goal

pub returns : goal.returns
returns c =
    let rows = c.in_ok-expansions.ensures in
    AreExpansions-solved _ _ c.requires.rules c.in_ok-equations.ensures rows.count rows.long rows.solved
