-- One more test has its guard.
use Rattle.std.proofs.Common.{◌≡◌, ◌<◌, arith, length, refl}
use Rattle.files_filter.proofs.RefusalsLemmas.{any_at}
use Rattle.files_filter.proofs.questions.guards_of.Goals as goal

pub loop-test-preserved : goal.loop-test-preserved
loop-test-preserved c =
    let less : c.loop-test.test-index < length c.args.tests.now = omega (arith, c.loop-test-test.true) in λ header.
    c.in_ok-add_guard.ensures header c.args.tests.now
    (any_at (λ own. own ≡ c.test-item.result) c.args.tests.now c.loop-test.test-index c.test-item.result _ less
    c.test-item.is refl) (c.loop-test.invariant header)
