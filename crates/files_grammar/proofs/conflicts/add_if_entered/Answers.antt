-- A state that no parser enters has no conflicts.
use Rattle.std.proofs.Common.{◌∙◌, sym}
use Rattle.std.proofs.lemmas.Option.{none-some}
use Rattle.files_grammar.proofs.ConflictLemmas.{found_in_row, not_entered, number_entered}
use Rattle.files_grammar.proofs.conflicts.add_if_entered.Goals as goal

pub returns-in_default : goal.returns-in_default
returns-in_default c =
    found_in_row c.args.file.now c.args.table.now c.args.state 0 c.args.choices.now.items c.requires.before
    (λ choice conflict state.
    absurd (not_entered c.args.file.now c.args.table.now c.args.state 0 c.args.states.now c.requires.entered
    (λ n is. none-some n (sym c.in_default.is ∙ (c.number.ensures n).1 is)) choice conflict state))

pub add_state-requires-clause-entered : goal.add_state-requires-clause-entered
add_state-requires-clause-entered c =
    number_entered c.args.table.now c.args.states.now c.requires.entered c.args.state _
    ((c.number.ensures _).0 c.in-Some.is)
