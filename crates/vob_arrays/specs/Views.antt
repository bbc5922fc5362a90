-- The arrays of a parser's table.
use Rattle.std.specs.Prelude.{ℕ, List}

-- how many terminals there are; where the entries of each state begin among all, and where the last ones
-- end; the symbol of each entry and what is done at it; the symbol of each rule's left side, and the number
-- of symbols on its right side
pub record TableArrays : Type 0 where
  pub terminals : ℕ
  pub offsets : List ℕ
  pub symbols : List ℕ
  pub actions : List ℕ
  pub left : List ℕ
  pub lengths : List ℕ
