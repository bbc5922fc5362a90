-- The actions stand after the name of the terminal.
use Rattle.std.proofs.Common.{◌∙◌, sym}
use Rattle.std.proofs.lemmas.Option.{none-some}
use Rattle.files_grammar.proofs.StateLemmas.{says_cell}
use Rattle.files_grammar.proofs.state_text.put_cell.Goals as goal

pub returns : goal.returns
returns g c =
    let actions = rw c.deref.ensures.value at c.in_ok-put_actions.ensures in
    says_cell c.args.names.now c.args.states.now c.args.terminal c.args.cell.now _ _ _ _
    (λ none. none-some _ (sym none ∙ sym c.action.ensures ∙ c.in-Some.is))
    c.in_ok-put_terminal.ensures actions c.in_ok-end_line.ensures
