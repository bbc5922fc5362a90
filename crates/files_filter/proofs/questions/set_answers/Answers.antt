-- One more test is answered.
use Rattle.std.proofs.Common.{◌≡◌, ◌<◌, true, arith, length, rules}
use Rattle.std.specs.Result.{is_ok}
use Rattle.csv.specs.Records.{fields_of}
use Rattle.files_filter.specs.Answers.{Answers}
use Rattle.files_filter.proofs.AnswersLemmas.{matched_up}
use Rattle.files_filter.proofs.questions.set_answers.Goals as goal

pub loop-test-init : goal.loop-test-init
loop-test-init g c = rw c.clear.ensures.items tt

pub loop-test-preserved : goal.loop-test-preserved
loop-test-preserved g c =
    let less : c.loop-test.test-index < length c.args.tests.now = omega (arith, c.loop-test-test.true) in
    let good : is_ok c.push.result ≡ true = search rules in
    rw (c.in_ok-push.ensures.items) (matched_up (λ test answer. Answers test (fields_of c.args.row.now) answer)
    c.args.tests.now c.loop-test.test-index _ c.test-item.result _ _ less c.test-item.is c.loop-test.invariant
    c.in_ok-value.ensures.ok)
