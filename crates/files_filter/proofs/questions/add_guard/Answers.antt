-- One more test has its guard.
use Rattle.std.proofs.Common.{[], ◌≡◌, subst, sym}
use Rattle.std.proofs.lemmas.List.Elements.{All-push}
use Rattle.files_filter.specs.Watching.{IsWatched, Watches}
use Rattle.files_filter.proofs.RefusalsLemmas.{any_as}
use Rattle.files_filter.proofs.questions.add_guard.Goals as goal

pub returns : goal.returns
returns c = λ header tests there all.
    let watched : IsWatched header [] tests c.in-Some.guard =
    any_as (λ own. own ≡ c.args.test.now) (λ test. Watches header [] test c.in-Some.guard) tests
    (λ test same. subst (λ test. Watches header [] test c.in-Some.guard) (sym same) (c.in-Some.ensures header)) there in
    rw (c.in_ok-push.ensures.items) (All-push (IsWatched header [] tests) c.args.guards.now.items c.in-Some.guard all watched)
