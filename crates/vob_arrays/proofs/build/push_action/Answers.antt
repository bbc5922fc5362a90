-- One entry is appended, or none.
use Rattle.std.proofs.Common.{◌∙◌, subst, sym}
use Rattle.std.proofs.lemmas.Option.{same_Some}
use Rattle.vob_arrays.specs.Arrays.{IsActionAt}
use Rattle.vob_arrays.proofs.AppendLemmas.{appends_none, appends_one}
use Rattle.vob_arrays.proofs.build.push_action.Goals as goal

pub returns-in_ok-push : goal.returns-in_ok-push
returns-in_ok-push c =
    let found = c.in_ok-action.ensures in
    let b = c.in-Some.action in
    rw c.in_ok-push.ensures.items (appends_one c.args.entries.now.items c.args.terminal b (λ x a. (
      (λ (e, at). (e, same_Some a b (sym ((found a).1 at) ∙ c.in-Some.is))),
      (λ (e, same). (
        e,
        subst (IsActionAt c.args.table.now c.args.state c.args.terminal) (sym same)
            ((found b).0 c.in-Some.is),
      )),
    )))

pub returns-in_default : goal.returns-in_default
returns-in_default c = appends_none c.args.entries.now.items (λ x a (e, at).
    c.in_default.not-Some a ((c.in_ok-action.ensures a).1 at))
