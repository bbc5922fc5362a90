-- The rows that were read are written.
use Rattle.std.proofs.Common.{◌≡◌, List, length}
use Rattle.files_filter.specs.Blocks.{HasAsked}
use Rattle.files_filter.specs.Reading.{Cells, Delimited}
use Rattle.files_filter.proofs.FilteredLemmas.{HasFiltered}
use Rattle.files_filter.proofs.filter.put_true_rows.Given as goal

abbrev pub invariant-loop : goal.invariant-loop
invariant-loop g l = record {
  tests : l.questions.tests ≡ l.fn.questions.tests;
  width : l.width ≡ length l.fn.questions.tests.items;
  filtered : (text : Delimited) (rows : List Cells) →
      HasAsked g.R.Read.remaining text rows l.fn.table l.fn.questions → HasFiltered g.R.Read.remaining text rows l.fn.questions.tests.items l.expression l.layout l.fn.window.skip
      l.fn.window.most (g.W.Write.contents l.fn.output) (g.W.Write.contents l.output) l.table l.questions l.count
      l.window.skip l.window.most;
}
