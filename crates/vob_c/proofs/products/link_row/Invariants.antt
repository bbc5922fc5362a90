-- The rows that are named so far are added.
use Rattle.vob_c.specs.Linking.{IsRowLinked}
use Rattle.vob_c.specs.Rows.{AreCanonicalRows, rows_in}
use Rattle.vob_c.proofs.products.link_row.Given as goal

abbrev pub invariant-loop-k : goal.invariant-loop-k
invariant-loop-k l = record {
  canonical : AreCanonicalRows l.sizes.rows l.sizes.columns l.made;
  linked : IsRowLinked (rows_in l.sizes.rows l.sizes.columns l.fn.made)
      (rows_in l.sizes.rows l.sizes.inner l.first) (rows_in l.sizes.inner l.sizes.columns l.second)
      l.i l.k (rows_in l.sizes.rows l.sizes.columns l.made);
}
