-- The words hold the rows so far.
use Rattle.std.proofs.Common.{length}
use Rattle.vob_c.specs.Copies.{AreWritten}
use Rattle.vob_c.specs.Rows.{AreCanonicalRows, rows_in}
use Rattle.vob_c.proofs.copies.write_rows.Given as goal

abbrev pub invariant-loop-i : goal.invariant-loop-i
invariant-loop-i l = record {
  canonical : AreCanonicalRows (length l.rows.rows) l.rows.columns l.words;
  written : AreWritten l.rows.rows (rows_in (length l.rows.rows) l.rows.columns l.words) l.i;
}
