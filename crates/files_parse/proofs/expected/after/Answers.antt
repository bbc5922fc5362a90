-- The tokens are read one after another. Where one isn't taken, nothing fits after all of them.
use Rattle.std.proofs.Common.{[], List, ℕ, get_or, reverse, subst, take, arith}
use Rattle.std.proofs.lemmas.List.{take_all, take_more}
use Rattle.files_parse.specs.Stacks.{HasRead}
use Rattle.files_parse.proofs.FittingLemmas.{none_fits}
use Rattle.files_parse.proofs.StackLemmas.{endless_not, nothing_read, reads_more, refused_not}
use Rattle.files_parse.proofs.expected.after.Goals as goal

pub loop-at-init : goal.loop-at-init
loop-at-init c = nothing_read c.args.table.now _ c.in_ok-states.ensures

pub loop-at-preserved : goal.loop-at-preserved
loop-at-preserved c =
    rw (take_more c.args.tokens.now c.loop-at.at 0 c.loop-at-test.true)
    (reads_more c.args.table.now (take c.loop-at.at c.args.tokens.now) _ _ _ c.loop-at.invariant
    (rw c.in-Taken.is at c.in_ok-take.ensures))

pub returns-in-Refused-clause-none : goal.returns-in-Refused-clause-none
returns-in-Refused-clause-none c =
    let tokens = c.args.tokens.now in
    none_fits c.args.table.now tokens c.loop-at.at c.loop-at-test.true
    (refused_not c.steps_are_one.ensures c.args.table.now c.lookaheads-states.ensures.sound
    (take c.loop-at.at tokens) (get_or tokens c.loop-at.at 0) (reverse c.loop-at.states.items) []
    c.loop-at.invariant (rw c.in-Refused.is at c.in_ok-take.ensures))

pub returns-in-Endless-clause-none : goal.returns-in-Endless-clause-none
returns-in-Endless-clause-none c =
    let tokens = c.args.tokens.now in
    none_fits c.args.table.now tokens c.loop-at.at c.loop-at-test.true
    (endless_not c.steps_are_one.ensures c.args.table.now c.lookaheads-states.ensures.sound
    (take c.loop-at.at tokens) (get_or tokens c.loop-at.at 0) (reverse c.loop-at.states.items) []
    c.loop-at.invariant (rw c.in-Endless.is at c.in_ok-take.ensures))

pub returns-clause-some : goal.returns-clause-some
returns-clause-some c =
    subst (λ (l : List ℕ). HasRead c.args.table.now l (reverse c.loop-at.states.items))
    (take_all c.loop-at.at c.args.tokens.now (omega (arith, c.loop-at-test.false))) c.loop-at.invariant
