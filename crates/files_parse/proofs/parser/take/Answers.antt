-- Each step leads on, and where two states are on top again it does so without end.
use Rattle.std.proofs.Common.{reverse}
use Rattle.files_parse.specs.Stacks.Leads.{here}
use Rattle.files_parse.proofs.MarkLemmas.{endless, goes_on, has_led, marks_now}
use Rattle.files_parse.proofs.parser.take.Goals as goal

pub loop-count-init : goal.loop-count-init
loop-count-init c =
    marks_now c.args.table.now c.args.terminal 0 (reverse c.args.states.now.items) _ _ here
    (rw c.deref.ensures.value at c.mark_of-mark.ensures)

pub loop-count-preserved : goal.loop-count-preserved
loop-count-preserved c =
    goes_on c.args.table.now c.args.terminal (reverse c.args.states.now.items) (reverse c.loop-count.states.items)
    (reverse c.act.new.states.items) c.loop-count.mark c.mark_of-now.result c.newer-mark.result c.loop-count.invariant
    (rw c.in-Reduced.is at c.in_ok-act.ensures) (rw c.deref-in-loop-count.ensures.value at c.mark_of-now.ensures)
    c.newer-mark.ensures

pub returns-then-repeats : goal.returns-then-repeats
returns-then-repeats c =
    endless c.args.table.now c.args.terminal (reverse c.args.states.now.items) (reverse c.loop-count.states.items)
    (reverse c.act.new.states.items) (reverse c.act.new.states.items) c.loop-count.mark c.mark_of-now.result
    c.loop-count.invariant (rw c.in-Reduced.is at c.in_ok-act.ensures)
    (rw c.deref-in-loop-count.ensures.value at c.mark_of-now.ensures) (c.repeats.ensures c.if-repeats.true)

pub returns-in-Shifted : goal.returns-in-Shifted
returns-in-Shifted c =
    let (n, leads) = has_led c.args.table.now c.args.terminal (reverse c.args.states.now.items)
    (reverse c.loop-count.states.items) c.loop-count.mark c.loop-count.invariant in
    (n, reverse c.loop-count.states.items, leads, rw c.in-Shifted.is at c.in_ok-act.ensures)

pub returns-in-Nothing : goal.returns-in-Nothing
returns-in-Nothing c =
    let (n, leads) = has_led c.args.table.now c.args.terminal (reverse c.args.states.now.items)
    (reverse c.loop-count.states.items) c.loop-count.mark c.loop-count.invariant in
    (n, reverse c.loop-count.states.items, leads, rw c.in-Nothing.is at c.in_ok-act.ensures)
