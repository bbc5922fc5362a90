-- The line of the next terminal is written.
use Rattle.std.proofs.Common.{◌≡◌, ◌-◌, ◌<◌, ◌≤◌, ap, arith}
use Rattle.std.specs.List.{range_with_len}
use Rattle.files_text.proofs.PrintedLemmas.{range_more, range_none}
use Rattle.files_grammar.proofs.TextLemmas.{texts_all, texts_more, texts_none}
use Rattle.files_grammar.proofs.state_text.put_cells.Goals as goal

pub loop-terminal-init : goal.loop-terminal-init
loop-terminal-init g c =
    let count = c.args.table.now.machine.grammar.terminals in
    let all : count - 0 ≡ count = omega arith in
    texts_all _ _ _ _ (ap (range_with_len 0) all)

pub loop-terminal-preserved : goal.loop-terminal-preserved
loop-terminal-preserved g c =
    let inside : c.loop-terminal.terminal < c.args.table.now.machine.grammar.terminals =
    omega (arith, c.loop-terminal-test.true, c.terminals_of-terminal-end.ensures) in
    texts_more _ _ _ _ _ _ _ _ (range_more c.loop-terminal.terminal c.args.table.now.machine.grammar.terminals inside)
    c.loop-terminal.invariant c.in_ok-put_cell_at.ensures

pub returns : goal.returns
returns g c =
    let past : c.args.table.now.machine.grammar.terminals ≤ c.loop-terminal.terminal =
    omega (arith, c.loop-terminal-test.false, c.terminals_of-terminal-end.ensures) in
    texts_none _ _ _ _ _ (range_none c.loop-terminal.terminal c.args.table.now.machine.grammar.terminals past)
    c.loop-terminal.invariant
