-- The rows of a block by their numbers.
use Rattle.std.specs.Prelude.{ℕ, List, [], map, slice_index_or}
use Rattle.files_filter.specs.FilterText.{answered}
use Rattle.files_filter.specs.Reading.{Cells}
use Rattle.files_filter.specs.declared.block.Row.{Row}

-- the cells of the row with a number
abbrev pub cells_of : List Row → ℕ → Cells
cells_of rows number = (slice_index_or (map answered rows) number ([], [])).0
