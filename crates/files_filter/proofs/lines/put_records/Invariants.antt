-- The rows with the numbers that are left are still to be written.
use Rattle.std.proofs.Common.{drop}
use Rattle.csv.specs.Writing.{text_written}
use Rattle.files_filter.specs.FilterText.{IsReady}
use Rattle.files_filter.specs.Layouts.{record_line}
use Rattle.files_filter.specs.Written.{cells_of}
use Rattle.files_text.proofs.PrintedLemmas.{AppendsItems}
use Rattle.files_filter.proofs.lines.put_records.Given as goal

abbrev pub invariant-loop-number : goal.invariant-loop-number
invariant-loop-number g l = record {
  ready : IsReady l.layout.delimiter l.writer;
  wrote : AppendsItems (λ number. record_line l.layout (cells_of l.rows number))
      (text_written g.W.Write.contents l.fn.writer) (text_written g.W.Write.contents l.writer)
      l.numbers (drop l.number-index l.numbers);
}
