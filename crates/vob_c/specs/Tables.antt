-- The sizes of a table and the names of its symbols, and what a parser by its arrays writes.
use Rattle.std.specs.Prelude.{◌≡◌, ◌⊎◌, ℕ, ◌+◌, ◌-◌, ◌<◌, ◌≤◌, List, ◌++◌, length, drop, slice_index}
use Rattle.std.below.core.specs.declared.int.usize.TheConstants.{MAX}
use Rattle.vob_lr.specs.Languages.{Suffice}
use Rattle.vob_lr.specs.Tables.{TableView}
use Rattle.vob_arrays.specs.Arrays.{right_symbols}
use Rattle.vob_arrays.specs.Views.{TableArrays}

-- the arrays of a call
abbrev pub table_arrays : ℕ → List ℕ → List ℕ → List ℕ → List ℕ → List ℕ → TableArrays
table_arrays terminals offsets symbols actions left lengths = record {
  terminals = terminals;
  offsets = offsets;
  symbols = symbols;
  actions = actions;
  left = left;
  lengths = lengths;
}

-- so many reductions suffice for a sentence of n tokens, unless they are the greatest number
abbrev pub IsMostFor : TableView → ℕ → ℕ → Type 0
IsMostFor table n reductions =
    (reductions ≡ MAX) ⊎ Suffice table.machine.grammar.rules.items n reductions

-- nine sizes: how many terminals there are, nonterminals, states, entries, rules, and symbols of all right
-- sides; how many bytes the names have, of which only a text tells; how many reductions suffice for no token,
-- and how many more for one
pub record HasSizes (table : TableView) (arrays : TableArrays) (sizes : List ℕ) : Type 0 where
  pub count : length sizes ≡ 9
  pub terminals : slice_index sizes 0 ≡ arrays.terminals
  pub nonterminals : slice_index sizes 1 ≡ table.machine.grammar.nonterminals
  pub states : slice_index sizes 2 ≡ length arrays.offsets - 1
  pub entries : slice_index sizes 3 ≡ length arrays.symbols
  pub rules : slice_index sizes 4 ≡ length arrays.left
  pub right : slice_index sizes 5 ≡ length (right_symbols table)
  pub none : IsMostFor table 0 (slice_index sizes 7)
  pub one : IsMostFor table 1 (slice_index sizes 7 + slice_index sizes 8)

-- names one after another: offsets that rise from 0 to the number of bytes
pub record AreNamed (offsets names : List ℕ) : Type 0 where
  pub some : 0 < length offsets
  pub first : slice_index offsets 0 ≡ 0
  pub rises : (k : ℕ) → k + 1 < length offsets → slice_index offsets k ≤ slice_index offsets (k + 1)
  pub last : slice_index offsets (length offsets - 1) ≡ length names

-- an array begins with some numbers, and the rest stays
pub record BeginsWithAll (numbers before after : List ℕ) (count : ℕ) : Type 0 where
  pub count_is : count ≡ length numbers
  pub all : after ≡ numbers ++ drop count before
