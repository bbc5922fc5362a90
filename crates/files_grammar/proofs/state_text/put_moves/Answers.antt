-- The line of the next move is written.
use Rattle.std.proofs.Common.{refl}
use Rattle.std.proofs.lemmas.List.{drop_more, drop_all}
use Rattle.vob_lr.specs.declared.grammar.Symbol.TheVariants.{Terminal}
use Rattle.files_grammar.proofs.StateLemmas.{move_listed}
use Rattle.files_grammar.proofs.TextLemmas.{texts_all, texts_more, texts_none}
use Rattle.files_grammar.proofs.state_text.put_moves.Goals as goal

pub loop-own-init : goal.loop-own-init
loop-own-init g c = texts_all _ _ _ _ refl

pub loop-own-preserved : goal.loop-own-preserved
loop-own-preserved g c =
    texts_more _ _ _ _ _ _ _ _
    (drop_more c.moves_of-moves.result.now c.loop-own.own-index (record { symbol = Terminal 0; state = 0 })
    c.loop-own-test.true)
    c.loop-own.invariant c.in_ok-put_move.ensures

pub returns : goal.returns
returns g c =
    let row = rw c.lookaheads-lookaheads.ensures.machine at c.moves_of-moves.ensures in
    rw (← row)
    (texts_none _ _ _ _ _ (drop_all c.loop-own.own-index c.moves_of-moves.result.now c.loop-own-test.false)
    c.loop-own.invariant)

pub put_move-requires : goal.put_move-requires
put_move-requires g c =
    let row = rw c.lookaheads-lookaheads.ensures.machine at c.moves_of-moves.ensures in
    move_listed c.args.table.now c.lookaheads-lookaheads.ensures.sound c.args.states.now c.requires.entered c.args.state
    c.moves_of-moves.result.now c.loop-own.own-index _ c.requires.state row c.loop-own-test.true
