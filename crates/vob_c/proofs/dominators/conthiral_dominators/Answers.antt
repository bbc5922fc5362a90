-- All tests passed.
use Rattle.std.proofs.Common.{inl, arith}
use Rattle.vob_c.proofs.StatusLemmas.{tells_all}
use Rattle.vob_c.proofs.dominators.conthiral_dominators.Goals as goal

pub returns-clause-status : goal.returns-clause-status
returns-clause-status c =
    let told = c.status_of_graph-status.ensures.ok.0 c.if-status-ne-OK.false in
    inl (tells_all told.0 told.1 (told.2, omega (arith, c.if-entry-nodes.false)))
