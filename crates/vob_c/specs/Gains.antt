-- Rows that got true bits. No public clause cites this page.
use Rattle.std.specs.Prelude.{◌≡◌, ◌≢◌, ℕ, Bool, true, false, List}
use Rattle.vob_matrix.specs.Matrix.{HaveShapeOf, IsEdge}

-- rows of one shape that kept their true bits, and a flag that is true if they got others
pub record HaveGained (changed : Bool) (rows after : List (List Bool)) : Type 0 where
  pub shape : HaveShapeOf rows after
  pub kept : (i j : ℕ) → IsEdge rows i j → IsEdge after i j
  pub same : changed ≡ false → after ≡ rows
  pub gained : changed ≡ true → after ≢ rows
