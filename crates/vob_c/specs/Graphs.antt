-- Graphs as two arrays: the ends of all edges, node by node, and how many ends stand before those of each
-- node. `lists_of` (vob_rows) cuts the ends into a list for each node.
use Rattle.std.specs.Prelude.{◌≡◌, ℕ, ◌+◌, ◌<◌, ◌≤◌, List, [], length, slice_index_or, All}
use Rattle.vob_flow.specs.Dominators.{IsImmediate}
use Rattle.vob_rows.specs.Graph.{IsReversed, ends_from}
use Rattle.vob_c.specs.Found.{found_below}

-- a number for each node and one more, which rise from 0 to the number of ends
-- Example: 0, 2, 2, 3 of three nodes with 3 ends
pub record AreOffsets (nodes : ℕ) (offsets ends : List ℕ) : Type 0 where
  pub count : length offsets ≡ nodes + 1
  pub first : slice_index_or offsets 0 0 ≡ 0
  pub rises : (n : ℕ) → n < nodes → slice_index_or offsets n 0 ≤ slice_index_or offsets (n + 1) 0
  pub last : slice_index_or offsets nodes 0 ≡ length ends

-- each end is a node
abbrev pub AreNodes : ℕ → List ℕ → Type 0
AreNodes nodes ends = All (λ end. end < nodes) ends

-- the edges of the first k nodes, in the order of the lists
pub record AreEdgesOf (lists : List (List ℕ)) (k : ℕ) (edges : List (ℕ × ℕ)) : Type 0 where
  pub own : (n : ℕ) → n < k → ends_from edges n ≡ slice_index_or lists n []
  pub none : (n : ℕ) → k ≤ n → ends_from edges n ≡ []

-- the immediate dominator of each node of a graph, or the number of nodes if it has none. A path is one of
-- `before`, in which each edge leads back.
pub record AreImmediate (lists : List (List ℕ)) (entry : ℕ) (immediate : List ℕ) : Type 0 where
  pub before : List (List ℕ)
  pub reversed : IsReversed lists before
  pub count : length immediate ≡ length lists
  pub most : (n : ℕ) → n < length lists → slice_index_or immediate n 0 ≤ length lists
  pub each : (n : ℕ) → n < length lists →
      IsImmediate before entry n (found_below (length lists) (slice_index_or immediate n 0))
