-- No cell is behind the last terminal.
use Rattle.std.proofs.Common.{arith}
use Rattle.files_grammar.proofs.ConflictLemmas.{cell_inside, found_in_row}
use Rattle.files_grammar.proofs.conflicts.add_state.Goals as goal

pub returns : goal.returns
returns c =
    found_in_row c.args.file.now c.args.table.now c.args.state c.loop-terminal.terminal c.loop-terminal.choices.items
    c.loop-terminal.invariant
    (λ choice conflict state.
    let inside = cell_inside c.args.table.now c.lookaheads-states.ensures.sound choice.state choice.terminal
    conflict.choice_is.cell conflict.choice_is.is in
    omega (arith, inside.1, c.loop-terminal-test.false, c.terminals_of-terminal-end.ensures))
