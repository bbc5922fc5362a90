-- Conditions over columns of a table, and the rows of which they are true.
use Rattle.std.specs.Prelude.{◌≡◌, ◌↔◌, ℕ, Bool, true, false, List, length, Option, Some, All, IsTrue, count_by}
use Rattle.std.specs.List.{range_with_len}
use Rattle.std.specs.Option.{unwrap_or}
use Rattle.vob_block.specs.Packing.{item}
use Rattle.vob_filter.specs.declared.filter.Expression.{Expression}
use Rattle.vob_filter.specs.declared.filter.Expression.TheVariants.{Column, And', Or', Not'}
use Rattle.vob_filter.specs.Columns.{row_at, sql_and, sql_not, sql_or, value_at}

-- what a condition is of one row, by SQL's tables
abbrev pub truth : Expression → List (Option Bool) → Option Bool
truth (Column number) row = value_at row number
truth (And' p a q b) row = sql_and (truth a row) (truth b row)
truth (Or' p a q b) row = sql_or (truth a row) (truth b row)
truth (Not' p a) row = sql_not (truth a row)

-- columns of so many rows each
abbrev pub AreRows : ℕ → List (List (Option Bool)) → Type 0
AreRows rows columns = All (λ column. length column ≡ rows) columns

-- a column of what a condition is of each row
pub record HasTruth (expression : Expression) (columns : List (List (Option Bool))) (rows : ℕ)
    (column : List (Option Bool)) : Type 0 where
  pub len : length column ≡ rows
  pub each : (i : ℕ) → value_at column i ≡ truth expression (row_at columns i)

-- the bits that say of which rows it is true
pub record IsFilter (expression : Expression) (columns : List (List (Option Bool))) (rows : ℕ)
    (kept : List Bool) : Type 0 where
  pub len : length kept ≡ rows
  pub each : (i : ℕ) → IsTrue (item kept i) ↔ (truth expression (row_at columns i) ≡ Some true)

-- of how many rows it is true
abbrev pub true_count : Expression → List (List (Option Bool)) → ℕ → ℕ
true_count expression columns rows =
    count_by (λ i. unwrap_or (truth expression (row_at columns i)) false) (range_with_len 0 rows)
