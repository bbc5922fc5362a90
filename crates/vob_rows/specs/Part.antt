-- Rows of bits in blocks, one row after another. No public clause cites this page.
use Rattle.std.specs.Prelude.{◌≡◌, ℕ, ◌+◌, ◌*◌, ◌<◌, ◌≤◌, Bool, List, ◌++◌, take, drop, length, map}
use Rattle.std.specs.List.{between, range_with_len}
use Rattle.vob_block.specs.Packing.{need, unpacking, IsCanonical, Stores}
use Rattle.vob_block.specs.Pointwise.{IsCombined}

-- the blocks of row i, of count blocks a row
abbrev pub blocks_of : {X : Type 0} → ℕ → List X → ℕ → List X
blocks_of count blocks i = between (i * count) (i * count + count) blocks

-- the bits of each row
unfoldable pub unpacked_rows : ℕ → ℕ → List ℕ → ℕ → List (List Bool)
unpacked_rows rows columns blocks width =
    map (λ i. unpacking columns (blocks_of (need columns width) blocks i) width)
    (range_with_len 0 rows)

-- rows stored the one way that each list of rows has
pub record AreCanonical (rows columns : ℕ) (blocks : List ℕ) (width : ℕ) : Type 0 where
  pub count : length blocks ≡ rows * need columns width
  pub each : (i : ℕ) → i < rows
      → IsCanonical columns (blocks_of (need columns width) blocks i) width

-- row i is there, and stored the one way that its bits have
pub record HasRow {X : Type 0} (number : X → ℕ) (width columns count : ℕ) (blocks : List X) (i : ℕ)
    : Type 0 where
  pub inside : i * count + count ≤ length blocks
  pub canonical : IsCanonical columns (map number (blocks_of count blocks i)) width

-- the blocks after others took the place of those of row i
abbrev pub with_row : {X : Type 0} → ℕ → List X → ℕ → List X → List X
with_row count blocks i others =
    take (i * count) blocks ++ (others ++ drop count (drop (i * count) blocks))

-- row i was made some bits, and the other rows are as they were
pub record IsRowPut {X : Type 0} (number : X → ℕ) (width columns count i : ℕ) (blocks : List X)
    (bits : List Bool) (after : List X) : Type 0 where
  pub new : List X
  pub stores : Stores width columns (map number new) bits
  pub put : after ≡ with_row count blocks i new

-- row i was combined with others by f, and the other rows are as they were
pub record IsRowCombined {X : Type 0} (number : X → ℕ) (width : ℕ) (f : Bool → Bool → Bool)
    (count i : ℕ) (blocks : List X) (others : List ℕ) (after : List X) (changed : Bool)
    : Type 0 where
  pub new : List X
  pub combined : IsCombined width f (map number (blocks_of count blocks i)) others (map number new)
      changed
  pub put : after ≡ with_row count blocks i new
