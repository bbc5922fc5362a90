-- Sets that draw from one another, as rows of bits: one row a node of a graph.
use Rattle.std.specs.Prelude.{ℕ, Bool, not, if◌then◌else◌, List}
use Rattle.vob_block.specs.Packing.{item}
use Rattle.vob_rows.specs.Rows.{row_of}

-- which places row n of some masks lets through: those that it has, or those that it hasn't
-- Example: of the mask 10, keep lets place 0 through, else place 1
abbrev pub lets : Bool → List (List Bool) → ℕ → ℕ → Bool
lets keep masks n v = if keep then item (row_of masks n) v else not (item (row_of masks n) v)
