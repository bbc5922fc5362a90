-- The tokens are read one after another, up to the one before which reductions never end.
use Rattle.std.proofs.Common.{[], length, take, drop, reverse, refl, ap, ◌∙◌, arith, get_or}
use Rattle.std.proofs.lemmas.List.{append-nil, get_or_past, length-take-le, take-append-drop, take_all, take_more}
use Rattle.files_parse.proofs.StackLemmas.{never_ends, nothing_read, reads_more}
use Rattle.files_parse.proofs.parser.endless_at.Goals as goal

pub loop-at-init : goal.loop-at-init
loop-at-init c = nothing_read c.args.table.now _ c.in_ok-states.ensures

pub loop-at-preserved : goal.loop-at-preserved
loop-at-preserved c =
    rw (take_more c.args.tokens.now c.loop-at.at 0 c.loop-at-test.true)
    (reads_more c.args.table.now (take c.loop-at.at c.args.tokens.now) _ _ _ c.loop-at.invariant
    (rw c.in-Taken.is at c.in_ok-take.ensures))

pub returns-in-Endless : goal.returns-in-Endless
returns-in-Endless c =
    let tokens = c.args.tokens.now in
    let at = c.loop-at.at in
    never_ends c.args.table.now tokens (take at tokens) (drop at tokens) at (get_or tokens at 0)
    (reverse c.loop-at.states.items) []
    (take-append-drop at tokens) (length-take-le at tokens (omega (arith, c.loop-at-test.true))) refl
    c.loop-at.invariant (rw c.in-Endless.is at c.in_ok-take.ensures)

pub returns : goal.returns
returns c =
    let tokens = c.args.tokens.now in
    let all = take_all c.loop-at.at tokens (omega (arith, c.loop-at-test.false)) in
    never_ends c.args.table.now tokens (take c.loop-at.at tokens) [] (length tokens) 0
    (reverse c.loop-at.states.items) [] (append-nil (take c.loop-at.at tokens) ∙ all) (ap length all)
    (get_or_past tokens (length tokens) 0 (omega arith)) c.loop-at.invariant
    (rw c.in-Endless-2.is at c.in_ok-take-2.ensures)
