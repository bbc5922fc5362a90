-- The comparisons so far have their tests.
use Rattle.std.proofs.Common.{take}
use Rattle.csv.specs.Records.{fields_of}
use Rattle.files_filter.specs.Columns.{AreTests}
use Rattle.files_filter.proofs.questions.tests_of.Given as goal

abbrev pub invariant-loop-comparison : goal.invariant-loop-comparison
invariant-loop-comparison g l =
    AreTests (fields_of l.table.header) (take l.comparison-index l.comparisons) l.tests.items
