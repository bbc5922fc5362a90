-- The number of an action says which it is.
use Rattle.std.proofs.Common.{◌∙◌, refl, sym}
use Rattle.std.proofs.lemmas.Option.{none-some}
use Rattle.vob_arrays.proofs.EntryLemmas.{chosen_none, chosen_reduce, chosen_shift}
use Rattle.vob_arrays.proofs.arrays.Arrays.chosen.Goals as goal

pub returns-in_err-action : goal.returns-in_err-action
returns-in_err-action c = λ table of.
    c.from_residual.ensures ∙ sym (chosen_none table c.args.state c.args.terminal (λ a at.
    none-some a ((c.in_err-action.ensures table of a).1 at)))

pub returns-then-action-eq-REDUCE : goal.returns-then-action-eq-REDUCE
returns-then-action-eq-REDUCE c = λ table of.
    let a = c.in_ok-action.action in
    sym (chosen_reduce table c.args.state c.args.terminal a ((c.in_ok-action.ensures table of a).0 refl)
    c.if-action-eq-REDUCE.true)

pub returns : goal.returns
returns c = λ table of.
    let a = c.in_ok-action.action in
    sym (chosen_shift table c.args.state c.args.terminal a ((c.in_ok-action.ensures table of a).0 refl)
    c.if-action-eq-REDUCE.false)
