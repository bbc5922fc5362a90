-- The rows of the states so far.
use Rattle.vob_lr.specs.Tables.{AreRowsOfCells}
use Rattle.vob_lr.proofs.rows.Source.rows.Given as goal

abbrev pub invariant-loop-state : goal.invariant-loop-state
invariant-loop-state l =
    AreRowsOfCells l.self.lookaheads.now l.self.terminals.now l.self.rules.now l.state l.rows.items
