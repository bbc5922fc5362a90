-- Rows of a table that a filter keeps, a bit each.
use Rattle.std.specs.Prelude.{◌≡◌, ℕ, Bool, ◌&&◌, not, List, length}
use Rattle.vob_block.specs.Packing.{item}

-- the rows of both lists that a third one hasn't
pub record IsSelected (bits others without rows : List Bool) : Type 0 where
  pub len : length rows ≡ length bits
  pub each : (i : ℕ) → item rows i ≡ ((item bits i && item others i) && not (item without i))
