-- What the work on the rows of a matrix keeps. No public clause cites this page.
use Rattle.std.specs.Prelude.{◌≡◌, ◌≢◌, ℕ, Bool, ◌||◌, List}
use Rattle.vob_block.specs.Packing.{item}
use Rattle.vob_matrix.specs.Matrix.{entry, HaveShapeOf}

-- the entries of a column at the true bits of a list were made true, and no other changed
pub record IsColumnMarked (rows : List (List Bool)) (column : ℕ) (bits : List Bool)
    (after : List (List Bool)) : Type 0 where
  pub shape : HaveShapeOf rows after
  pub there : (i : ℕ) → entry after i column ≡ (item bits i || entry rows i column)
  pub others : (i j : ℕ) → j ≢ column → entry after i j ≡ entry rows i j

-- column i was marked so at the true bits of row i of other rows, for each of these
pub record AreColumnsMarked (rows from after : List (List Bool)) : Type 0 where
  pub shape : HaveShapeOf rows after
  pub each : (i j : ℕ) → entry after j i ≡ (entry from i j || entry rows j i)
