-- The cell is that of the state, and a parser enters the state of its shift.
use Rattle.files_grammar.proofs.StateLemmas.{shift_listed}
use Rattle.files_grammar.proofs.state_text.put_cell_at.Goals as goal

pub put_cell-requires : goal.put_cell-requires
put_cell-requires g c =
    shift_listed c.args.table.now c.lookaheads-states.ensures.sound c.args.states.now c.requires.entered
    c.args.state c.args.terminal c.in-Some.cell.now c.requires.state c.in-Some.ensures.some

pub returns : goal.returns
returns g c = rw c.in-Some.ensures.some c.in_ok-put_cell.ensures
