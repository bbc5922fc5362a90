-- The rows so far got all that they name, and began blank.
use Rattle.std.proofs.Common.{false, replicate}
use Rattle.vob_c.specs.Linking.{AreRowsLinked}
use Rattle.vob_c.specs.Rows.{AreCanonicalRows, rows_in}
use Rattle.vob_c.proofs.products.multiply.Given as goal

abbrev pub invariant-loop-i : goal.invariant-loop-i
invariant-loop-i l = record {
  canonical : AreCanonicalRows l.sizes.rows l.sizes.columns l.made;
  linked : AreRowsLinked (replicate l.sizes.rows (replicate l.sizes.columns false))
      (rows_in l.sizes.rows l.sizes.inner l.first) (rows_in l.sizes.inner l.sizes.columns l.second)
      l.sizes.inner l.i (rows_in l.sizes.rows l.sizes.columns l.made);
}
