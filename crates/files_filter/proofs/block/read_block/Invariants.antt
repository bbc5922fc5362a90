-- The rows so far were read, and are answered.
use Rattle.std.proofs.Common.{◌≡◌, ◌++◌, List, map}
use Rattle.files_filter.specs.Blocks.{AnswerAll, HasAsked}
use Rattle.files_filter.specs.FilterText.{answered}
use Rattle.files_filter.specs.Reading.{Cells, Delimited}
use Rattle.files_filter.proofs.block.read_block.Given as goal

abbrev pub invariant-loop : goal.invariant-loop
invariant-loop g l = record {
  tests : l.questions.tests ≡ l.fn.questions.tests;
  rows : (text : Delimited) (rows : List Cells) →
      HasAsked g.R.Read.remaining text rows l.fn.table l.fn.questions →
      HasAsked g.R.Read.remaining text (rows ++ map (λ row. row.0) (map answered l.rows.items)) l.table l.questions;
  answers : AnswerAll l.fn.questions.tests.items (map answered l.rows.items);
}
