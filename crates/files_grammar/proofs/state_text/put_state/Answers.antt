-- The lines of the items, of the cells and of the moves stand below the number.
use Rattle.std.proofs.Common.{◌++◌, codes}
use Rattle.std.specs.Fmt.{decimal}
use Rattle.files_text.specs.Printed.{line_end}
use Rattle.files_grammar.proofs.StateLemmas.{entered_inside, numbered_entered}
use Rattle.files_grammar.proofs.TextLemmas.{after, both, writes_as}
use Rattle.files_grammar.proofs.state_text.put_state.Goals as goal

pub put_items-requires : goal.put_items-requires
put_items-requires g c =
    let sound = c.lookaheads-lookaheads.ensures.sound in
    rw c.lookaheads-lookaheads.ensures.machine
    (entered_inside c.args.table.now sound c.state-state.result
    (numbered_entered c.args.table.now sound c.args.states.now c.requires.entered c.state-state.result c.args.number
    c.state-state.ensures))

pub put_cells-requires-clause-state : goal.put_cells-requires-clause-state
put_cells-requires-clause-state g c =
    numbered_entered c.args.table.now c.lookaheads-lookaheads.ensures.sound c.args.states.now c.requires.entered
    c.state-state.result c.args.number c.state-state.ensures

pub put_moves-requires-clause-state : goal.put_moves-requires-clause-state
put_moves-requires-clause-state g c =
    numbered_entered c.args.table.now c.lookaheads-lookaheads.ensures.sound c.args.states.now c.requires.entered
    c.state-state.result c.args.number c.state-state.ensures

pub put_moves-requires-clause-inside : goal.put_moves-requires-clause-inside
put_moves-requires-clause-inside g c =
    let sound = c.lookaheads-lookaheads.ensures.sound in
    entered_inside c.args.table.now sound c.state-state.result
    (numbered_entered c.args.table.now sound c.args.states.now c.requires.entered c.state-state.result c.args.number
    c.state-state.ensures)

pub returns : goal.returns
returns g c =
    let items = rw c.lookaheads-lookaheads.ensures.machine at c.in_ok-put_items.ensures in
    writes_as _ _ (λ text says. (c.state-state.result, c.state-state.ensures, says))
    (after _ _ _ (line_end ++ codes "state " ++ decimal c.args.number ++ line_end) c.in_ok-put_state_number.ensures
    (both _ _ _ items (both _ _ _ c.in_ok-put_cells.ensures c.in_ok-put_moves.ensures)))
