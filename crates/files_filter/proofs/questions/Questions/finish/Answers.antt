-- A guard refuses what it has seen.
use Rattle.std.proofs.Common.{◌<◌, arith, length, subst, sym}
use Rattle.std.proofs.lemmas.Result.{err_from_is_err_and}
use Rattle.files_filter.specs.Watching.{IsWatched}
use Rattle.files_filter.proofs.RefusalsLemmas.{any_as}
use Rattle.files_filter.proofs.questions.Questions.finish.Goals as goal

pub returns-in_err-finish : goal.returns-in_err-finish
returns-in_err-finish c =
    let p = err_from_is_err_and c.from_residual.result c.from_residual.ensures.1 in
    let item = rw (c.deref-guard-items.ensures.value) at c.guard-item.is in
    let less : c.loop-guard.guard-index < length c.args.self.now.guards.items =
    omega (arith, c.loop-guard-test.true, c.deref-guard-items.ensures.len) in
    rw (p.1, p.2) (λ text header rows all whole.
    any_as _ _ c.args.self.now.tests.items (λ test so. c.in_err-finish.ensures text header rows test so whole)
    (subst (IsWatched header rows c.args.self.now.tests.items) (sym item) (all _ _ less)))
