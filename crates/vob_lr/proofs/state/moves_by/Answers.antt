-- The walk gives the next symbol, and its move is one more.
use Rattle.std.proofs.Common.{◌∙◌, ap, arith, refl}
use Rattle.vob_lr.specs.Ahead.{symbol_with}
use Rattle.vob_lr.specs.declared.grammar.Grammar.{Grammar}
use Rattle.vob_lr.specs.declared.state.Move.{Move}
use Rattle.vob_lr.proofs.StateLemmas.{AreMoves-whole, AreMovesBut-start, Extends-itself, moves_go_on, one_given, state_read, still_there}
use Rattle.vob_lr.proofs.state.moves_by.Goals as goal

pub loop-number-init : goal.loop-number-init
loop-number-init c = record {
  can_next = tt;
  is_finite = tt;
  some = c.requires.some;
  more = Extends-itself c.args.closures.now.rules.items _;
  given = rw c.new-moves.ensures.items refl;
  moves = rw c.new-moves.ensures.items
      (AreMovesBut-start _ _ _ c.requires.ahead _ _ (ap (λ walk. walk.rest)
      c.into_iter-number-iterator.ensures.into_iter_gives
      ∙ (c.iter_set_bits-number-items.ensures.fresh tt).whole.rest));
}

pub index-requires : goal.index-requires
index-requires c =
    omega (
      arith,
      still_there c.args.sets.now.keys c.loop-number.sets.keys
          c.loop-number.invariant.more c.args.from c.requires.from,
    )

pub loop-number-preserved : goal.loop-number-preserved
loop-number-preserved c =
    let grammar = c.args.closures.now in
    let h = c.loop-number.invariant in
    let read = state_read grammar.rules.items c.args.sets.now.keys c.loop-number.sets.keys h.some
    h.more c.args.from c.requires.from c.index.result.now c.index.ensures in
    let symbol = c.symbol_at-symbol.ensures ∙ ap (λ (g : Grammar).
    symbol_with g.terminals c.in-Some.number) (c.grammar.ensures ∙ c.items.ensures) in
    let move : Move = record { symbol = c.symbol_at-symbol.result; state = c.in_ok-state.state } in
    let on = moves_go_on grammar _ _ c.requires.ahead _ read.1 _ _ c.in-Some.number _
    c.in-Some.ensures.steps.gives _ h.some h.more h.moves _ read.0 _ move (rw c.deref.ensures.value at c.in_ok-next.ensures) _ _
    c.in_ok-state.ensures symbol refl in record {
      can_next = tt;
      is_finite = tt;
      some = on.0;
      more = on.1;
      given = rw c.in_ok-push.ensures.items
          (one_given grammar.rules.items _ _ _ _ c.in_ok-state.ensures _ _ h.given move refl);
      moves = rw c.in_ok-push.ensures.items on.2;
    }

pub returns : goal.returns
returns c = record {
  some = c.loop-number.invariant.some;
  more = c.loop-number.invariant.more;
  given = c.loop-number.invariant.given;
  moves_of = AreMoves-whole _ _ _ c.requires.ahead _ _ c.in-None.ensures.steps.gives.0 _
      c.loop-number.invariant.moves;
}
