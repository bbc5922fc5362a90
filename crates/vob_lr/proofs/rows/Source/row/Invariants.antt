-- The cells of the terminals so far.
use Rattle.vob_lr.specs.Tables.{AreCells}
use Rattle.vob_lr.proofs.rows.Source.row.Given as goal

abbrev pub invariant-loop-terminal : goal.invariant-loop-terminal
invariant-loop-terminal l =
    AreCells l.self.lookaheads.now l.self.terminals.now l.self.rules.now l.state l.terminal l.row
