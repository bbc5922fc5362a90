-- The place is that of what comes after the bytes.
use Rattle.std.proofs.Common.{refl}
use Rattle.files_csv.proofs.whole.WholeRows.refuse.Goals as goal

pub returns-clause-refused : goal.returns-clause-refused
returns-clause-refused g c = λ gone body are inside is.
    let place = c.line_and_column-line.ensures gone body are inside is in record {
      fault = record {
        line = c.line_and_column-line.result.0;
        column = c.line_and_column-line.result.1;
        expected = c.args.expected;
      };
      found = refl;
      line_is = place.0;
      column_is = place.1;
      expected_is = refl;
    }
