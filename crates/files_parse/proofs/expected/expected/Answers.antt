-- The terminals that fit are added in their order.
use Rattle.std.proofs.Common.{◌<◌, arith}
use Rattle.files_grammar.proofs.OrderLemmas.{AreInOrder-nothing, below_all, below_none}
use Rattle.files_parse.specs.Fitting.{IsExpected}
use Rattle.files_parse.proofs.FittingLemmas.{added}
use Rattle.files_parse.proofs.expected.expected.Goals as goal

pub returns-in_default : goal.returns-in_default
returns-in_default c =
    let none = rw c.in_default.is at c.in_ok-states.ensures.none in
    rw c.new-terminals.ensures.items
    (AreInOrder-nothing (λ i j. i < j) (IsExpected c.args.table.now c.args.names.now c.args.tokens.now)
    (λ t is. none t is.2))

pub loop-terminal-init : goal.loop-terminal-init
loop-terminal-init c =
    rw c.new-terminals.ensures.items
    (below_none (IsExpected c.args.table.now c.args.names.now c.args.tokens.now))

pub loop-terminal-preserved : goal.loop-terminal-preserved
loop-terminal-preserved c =
    added (IsExpected c.args.table.now c.args.names.now c.args.tokens.now) c.loop-terminal.terminal
    c.loop-terminal.terminals.items _ c.loop-terminal.invariant
    (rw c.deref.ensures.value at c.in_ok-add_if_taken.ensures c.args.tokens.now
    (rw c.in-Some.is at c.in_ok-states.ensures.some)
    (omega (arith, c.loop-terminal-test.true, c.len-terminal-end.ensures, c.args.names.now.terminals.ok.0)))

pub returns : goal.returns
returns c =
    below_all (IsExpected c.args.table.now c.args.names.now c.args.tokens.now) c.loop-terminal.terminal _
    (λ t is. omega (arith, is.0, c.loop-terminal-test.false)) c.loop-terminal.invariant
