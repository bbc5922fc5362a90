-- There is one cell more.
use Rattle.vob_lr.proofs.TableLemmas.{AreCells-more}
use Rattle.vob_lr.proofs.rows.Source.row.Goals as goal

pub loop-terminal-preserved : goal.loop-terminal-preserved
loop-terminal-preserved c =
    let source = c.args.self.now in
    AreCells-more source.lookaheads.now source.terminals.now source.rules.now c.args.state
    c.loop-terminal.terminal c.loop-terminal.row c.in_ok-cell.field-0 c.in_ok-row.row
    c.loop-terminal.invariant c.in_ok-cell.ensures c.in_ok-row.ensures
