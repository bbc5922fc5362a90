-- The tests so far are answered.
use Rattle.std.proofs.Common.{take}
use Rattle.csv.specs.Records.{fields_of}
use Rattle.files_filter.specs.Answers.{AreAnswers}
use Rattle.files_filter.proofs.questions.set_answers.Given as goal

abbrev pub invariant-loop-test : goal.invariant-loop-test
invariant-loop-test g l = AreAnswers (take l.test-index l.tests) (fields_of l.row) l.answers.items
