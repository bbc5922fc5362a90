-- A matrix of bits, and where its entries lead: entry (i, j) is bit j of row i.
use Rattle.std.specs.Prelude.{◌≡◌, ◌≢◌, ◌↔◌, ◌⊎◌, ℕ, Bool, true, ◌||◌, List, [], ◌∷◌, length}
use Rattle.vob_block.specs.Packing.{item}
use Rattle.vob.specs.Sets.{HasShared}
use Rattle.vob.specs.Vobs.{AreOfLength}
use Rattle.vob_rows.specs.Rows.{row_of, Matrix}

-- entry (i, j), false past the last row or column
abbrev pub entry : List (List Bool) → ℕ → ℕ → Bool
entry rows i j = item (row_of rows i) j

-- rows that are as many and as long as others
pub record HaveShapeOf (rows after : List (List Bool)) : Type 0 where
  pub count : length after ≡ length rows
  pub long : (i : ℕ) → length (row_of after i) ≡ length (row_of rows i)

-- entry (i, j) was made a value, and no other changed
pub record IsEntryWritten (rows : List (List Bool)) (i j : ℕ) (value : Bool)
    (after : List (List Bool)) : Type 0 where
  pub shape : HaveShapeOf rows after
  pub there : entry after i j ≡ value
  pub others : (k l : ℕ) → (k ≢ i) ⊎ (l ≢ j) → entry after k l ≡ entry rows k l

-- row i got the true entries of row k, and no other row changed
pub record GetsRow (rows : List (List Bool)) (i k : ℕ) (after : List (List Bool)) : Type 0 where
  pub shape : HaveShapeOf rows after
  pub there : (j : ℕ) → entry after i j ≡ (entry rows i j || entry rows k j)
  pub others : (l j : ℕ) → l ≢ i → entry after l j ≡ entry rows l j

-- each row got the true entries of the same row of others
pub record AreJoined (rows others after : List (List Bool)) : Type 0 where
  pub shape : HaveShapeOf rows after
  pub each : (i j : ℕ) → entry after i j ≡ (entry rows i j || entry others i j)

-- an edge leads from node i to node j
abbrev pub IsEdge : List (List Bool) → ℕ → ℕ → Type 0
IsEdge rows i j = entry rows i j ≡ true

-- edges lead from node i through some nodes, one after another, to node j
abbrev pub IsPath : List (List Bool) → ℕ → List ℕ → ℕ → Type 0
IsPath rows i [] j = IsEdge rows i j
IsPath rows i (k ∷ through) j = IsEdge rows i k × IsPath rows k through j

-- a path of one edge or more leads from node i to node j
abbrev pub HasPath : List (List Bool) → ℕ → ℕ → Type 0
HasPath rows i j = (through : List ℕ) × IsPath rows i through j

-- an edge wherever there was a path, and nowhere else
pub record AreClosed (rows after : List (List Bool)) : Type 0 where
  pub shape : HaveShapeOf rows after
  pub each : (i j : ℕ) → IsEdge after i j ↔ HasPath rows i j

-- a bit for each row, true exactly if the row has a true entry in one of some columns
pub record IsColumnUnion (rows : List (List Bool)) (columns after : List Bool) : Type 0 where
  pub len : length after ≡ length rows
  pub each : (i : ℕ) → (item after i ≡ true) ↔ HasShared (row_of rows i) columns

-- rows and columns exchanged
pub record IsTransposed (matrix after : Matrix) : Type 0 where
  pub count : length after.rows ≡ matrix.columns
  pub columns : after.columns ≡ length matrix.rows
  pub long : AreOfLength after.columns after.rows
  pub each : (i j : ℕ) → entry after.rows j i ≡ entry matrix.rows i j
