-- A search finds the place of a state.
use Rattle.files_grammar.proofs.NumberLemmas.{number_is}
use Rattle.files_grammar.proofs.states.States.number.Goals as goal

pub returns : goal.returns
returns c =
    let position = rw c.deref.ensures.value at c.binary_search.ensures.position in
    rw (← c.self.view_is, c.ok.ensures.value)
    (number_is c.self.inside.entered.items c.self.invariant c.args.state c.binary_search.result position)
