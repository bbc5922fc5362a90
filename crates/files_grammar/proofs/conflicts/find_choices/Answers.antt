-- The states are gone through to the last.
use Rattle.std.proofs.Common.{arith}
use Rattle.files_grammar.proofs.ConflictLemmas.{cell_inside, found_in_all, none_found}
use Rattle.files_grammar.proofs.conflicts.find_choices.Goals as goal

pub loop-state-init : goal.loop-state-init
loop-state-init c = rw c.new-choices.ensures.items (none_found c.args.file.now c.args.table.now)

pub returns : goal.returns
returns c =
    let count = rw c.lookaheads-lookaheads.ensures.machine at c.count_of-count.ensures in
    found_in_all c.args.file.now c.args.table.now c.loop-state.state c.loop-state.choices.items
    (λ choice conflict.
    let inside = cell_inside c.args.table.now c.lookaheads-lookaheads.ensures.sound choice.state choice.terminal
    conflict.choice_is.cell conflict.choice_is.is in
    omega (arith, inside.0, c.loop-state-test.false, count))
    c.loop-state.invariant
