-- One more comparison has its test.
use Rattle.std.proofs.Common.{◌≡◌, ◌<◌, true, ◌+◌, arith, drop, get_or, inl, inr, length, refl, rules, take}
use Rattle.std.proofs.lemmas.Result.{err_from_is_err_and}
use Rattle.std.specs.Result.{is_ok}
use Rattle.csv.specs.Records.{fields_of}
use Rattle.files_filter.specs.Columns.{IsTest}
use Rattle.files_filter.proofs.AnswersLemmas.{cut_at, matched_up}
use Rattle.files_filter.proofs.questions.tests_of.Goals as goal

pub loop-comparison-preserved : goal.loop-comparison-preserved
loop-comparison-preserved g c =
    let less : c.loop-comparison.comparison-index < length c.args.comparisons.now = omega (arith, c.loop-comparison-test.true) in
    let good : is_ok c.push.result ≡ true = search rules in
    rw (c.in_ok-push.ensures.items) (matched_up (IsTest (fields_of c.args.table.now.header)) c.args.comparisons.now
    c.loop-comparison.comparison-index _ _ _ _ less refl c.loop-comparison.invariant
    c.in_ok-new.ensures.ok)

pub returns-in_err-new-clause-err : goal.returns-in_err-new-clause-err
returns-in_err-new-clause-err g c =
    let p = err_from_is_err_and c.from_residual.result c.from_residual.ensures.1 in
    let index = c.loop-comparison.comparison-index in
    let comparisons = c.args.comparisons.now in
    let less : index < length comparisons = omega (arith, c.loop-comparison-test.true) in
    rw (p.1, p.2) (elim c.in_err-new.ensures.err [
      | inl none ↦ inl none
      | inr vain ↦ inr (record {
        early = take index comparisons;
        comparison = get_or comparisons index _;
        late = drop (index + 1) comparisons;
        cut = cut_at comparisons index _ less;
        tests = c.loop-comparison.tests.items;
        tests_are = c.loop-comparison.invariant;
        none = vain.0;
        fault_is = vain.1;
      })
    ])
