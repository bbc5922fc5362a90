-- By the lemmas on two arrays of words.
use Rattle.std.proofs.Common.{◌∙◌, ap, length, sym, arith}
use Rattle.vob_c.proofs.ReachedLemmas.{turn_below, turn_found}
use Rattle.vob_c.proofs.reach.next_turn.Goals as goal

pub first_combined-found-requires-clause-same : goal.first_combined-found-requires-clause-same
first_combined-found-requires-clause-same c =
    c.requires.reached.count ∙ sym c.requires.turned.count ∙ sym (ap length c.new.ensures.items)

pub first_combined-found-requires-clause-fits : goal.first_combined-found-requires-clause-fits
first_combined-found-requires-clause-fits c = λ i on. omega (
  arith,
  turn_below _ _ _ _ c.requires.reached c.requires.turned c.new.ensures.items i on,
  c.ranges.size.fits,
)

pub returns : goal.returns
returns c = turn_found _ _ _ _ c.requires.reached c.requires.turned c.new.ensures.items _
    c.first_combined-found.result c.unwrap_or.ensures c.first_combined-found.ensures.found
