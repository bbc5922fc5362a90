-- The lines of the next state are written.
use Rattle.std.proofs.Common.{◌≡◌, ◌-◌, ◌<◌, ap, arith, length}
use Rattle.std.specs.List.{range_with_len}
use Rattle.files_text.proofs.PrintedLemmas.{range_more, range_none}
use Rattle.files_grammar.proofs.TextLemmas.{texts_all, texts_more, texts_none}
use Rattle.files_grammar.proofs.state_text.put_states.Goals as goal

pub loop-number-init : goal.loop-number-init
loop-number-init g c =
    let count = length c.args.states.now in
    let all : count - 0 ≡ count = omega arith in
    texts_all _ _ _ _ (ap (range_with_len 0) all)

pub loop-number-preserved : goal.loop-number-preserved
loop-number-preserved g c =
    let inside : c.loop-number.number < length c.args.states.now = omega arith in
    texts_more _ _ _ _ _ _ _ _ (range_more c.loop-number.number (length c.args.states.now) inside)
    c.loop-number.invariant c.in_ok-put_state.ensures

pub returns : goal.returns
returns g c =
    texts_none _ _ _ _ _ (range_none c.loop-number.number (length c.args.states.now) (omega arith))
    c.loop-number.invariant
