-- The rules stand before the states.
use Rattle.files_grammar.proofs.TextLemmas.{both}
use Rattle.files_grammar.proofs.grammar.put_wanted.Goals as goal

pub returns : goal.returns
returns g c =
    let rules = rw c.deref.ensures.value at c.in_ok-put_rules.ensures in
    rw c.if-not-wants_states.false (both _ _ _ rules c.in_ok-put_states.ensures)
