-- The walk gives the next terminal of the set, and its name is written.
use Rattle.std.proofs.Common.{◌∙◌, ap}
use Rattle.files_text.proofs.PrintedLemmas.{items_all, items_more, items_none}
use Rattle.files_grammar.proofs.sets.put_terminals.Goals as goal

pub loop-terminal-init : goal.loop-terminal-init
loop-terminal-init g c = record {
  can_next = tt;
  is_finite = tt;
  wrote = items_all _ _ _ _ (ap (λ walk. walk.rest)
      c.into_iter-terminal-iterator.ensures.into_iter_gives
      ∙ (c.iter_set_bits-terminal-items.ensures.fresh tt).whole.rest);
}

pub loop-terminal-preserved : goal.loop-terminal-preserved
loop-terminal-preserved g c = record {
  can_next = tt;
  is_finite = tt;
  wrote = items_more _ _ _ _ _ _ _ _ c.in-Some.ensures.steps.gives c.loop-terminal.invariant.wrote
      (rw (← c.terminal.ensures) c.in_ok-put_next.ensures);
}

pub returns : goal.returns
returns g c = items_none _ _ _ _ _ c.in-None.ensures.steps.gives.0 c.loop-terminal.invariant.wrote
