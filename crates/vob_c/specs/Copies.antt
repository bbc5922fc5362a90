-- Rows of bits that come out of words, and go into words. No public clause cites this page.
use Rattle.std.specs.Prelude.{◌≡◌, ℕ, ◌<◌, ◌≤◌, Bool, false, List, length, replicate}
use Rattle.vob_rows.specs.Rows.{row_of}

-- the first k rows are those of a table, and the others blank
pub record AreTaken (table : List (List Bool)) (columns : ℕ) (rows : List (List Bool)) (k : ℕ) : Type 0 where
  pub count : length rows ≡ length table
  pub low : (n : ℕ) → n < k → n < length table → row_of rows n ≡ row_of table n
  pub high : (n : ℕ) → k ≤ n → n < length table → row_of rows n ≡ replicate columns false

-- the first k rows are those of a table, and as many as it has
pub record AreWritten (table rows : List (List Bool)) (k : ℕ) : Type 0 where
  pub count : length rows ≡ length table
  pub low : (n : ℕ) → n < k → n < length table → row_of rows n ≡ row_of table n
