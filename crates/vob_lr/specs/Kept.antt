-- The cells of a state, of which those with an action are kept. No public clause cites this page.
use Rattle.std.specs.Prelude.{◌≡◌, ℕ, ◌<◌, ◌≤◌, List, [], ◌∷◌, ◌++◌, length, map, slice_index_or, All, AllPairs, None, true}
use Rattle.std.specs.List.{range_with_len}
use Rattle.std.specs.Option.{is_some}
use Rattle.vob_lr.specs.Nodes.{place_of}
use Rattle.vob_lr.specs.Tables.{chosen}
use Rattle.vob_lr.specs.declared.table.Cell.{Cell}

-- a cell holds what another does
abbrev pub Equals : Cell → Cell → Type 0
Equals cell own = (own.shift ≡ cell.shift) × (own.reduces.items ≡ cell.reduces.items)

-- the cells of n terminals: of those with an action, the kept cells at their places, and else one that
-- holds nothing
abbrev pub cells_below : ℕ → List ℕ → List ℕ → List Cell → Cell → List Cell
cells_below n terminals places kept nothing =
    map (λ t. slice_index_or kept (slice_index_or places (place_of terminals t) (length kept)) nothing)
    (range_with_len 0 n)

-- no cell holds what an earlier one does
abbrev pub AreDifferent : List Cell → Type 0
AreDifferent cells = AllPairs (λ earlier later. ¬ Equals later earlier) cells

-- a cell with an action
abbrev pub Acts : Cell → Type 0
Acts cell = is_some (chosen cell.shift cell.reduces.items) ≡ true

-- terminals in rising order, each with the place of a cell with an action, and a cell that holds nothing
pub record AreKept (n : ℕ) (terminals places : List ℕ) (kept : List Cell) (nothing : Cell) : Type 0 where
  pub rise : AllPairs (λ t u. t < u) terminals
  pub below : All (λ t. t < n) terminals
  pub long : length places ≡ length terminals
  pub inside : All (λ place. place < length kept) places
  pub differ : AreDifferent kept
  pub act : All Acts kept
  pub no_shift : nothing.shift ≡ None
  pub no_reduces : nothing.reduces.items ≡ []

-- a cell is kept at a place, and so are those that were kept before
pub record Keeps (kept : List Cell) (cell : Cell) (more : List Cell) (place : ℕ) : Type 0 where
  pub long : length kept ≤ length more
  pub stays : (k : ℕ) (d : Cell) → k < length kept → slice_index_or more k d ≡ slice_index_or kept k d
  pub inside : place < length more
  pub there : (d : Cell) → Equals cell (slice_index_or more place d)
  pub differ : AreDifferent kept → AreDifferent more
  pub act : Acts cell → All Acts kept → All Acts more

-- one cell more, which holds the same
abbrev pub IsPushed : List Cell → Cell → List Cell → Type 0
IsPushed before cell after = (own : Cell) × Equals cell own × (after ≡ before ++ own ∷ [])
