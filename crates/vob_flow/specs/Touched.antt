-- The nodes to which places of a part may come, and the graph that they make with one node in place of
-- all others. No public clause cites this page.
use Rattle.std.specs.Prelude.{◌≡◌, ◌==◌, ◌↔◌, ◌⊎◌, ℕ, ◌+◌, ◌<◌, ◌≤◌, Bool, List, [], ◌∷◌, length, slice_index_or, All, AllPairs, Any, Contains, Option, None, Some}
use Rattle.std.specs.List.{position_or_len}
use Rattle.vob_block.specs.Packing.{item}
use Rattle.vob.specs.Vobs.{AreOfLength}
use Rattle.vob_rows.specs.Graph.{IsReversed}
use Rattle.vob_flow.specs.Available.{IsEntry}
use Rattle.vob_flow.specs.Closure.{IsEdge}
use Rattle.vob_flow.specs.Reach.{Reaches}
use Rattle.vob_flow.specs.declared.lists.Paths.{Paths}
use Rattle.vob_flow.specs.declared.lists.Paths.TheVariants.{Some as SomePath, All as AllPaths, AllFrom}

-- the entry of a problem, if it has one
abbrev pub entry_of : Paths → Option ℕ
entry_of SomePath = None
entry_of AllPaths = None
entry_of (AllFrom entry) = Some entry

-- what to ask where one node, the last, stands for all others: it is the entry then
abbrev pub inner_paths : Paths → ℕ → Paths
inner_paths SomePath last = SomePath
inner_paths AllPaths last = AllFrom last
inner_paths (AllFrom entry) last = AllFrom last

-- where no place comes to node n, none holds there: if a problem asks about all paths, one leads there
-- from the entry
abbrev pub IsFed : Paths → List (List ℕ) → ℕ → Type 0
IsFed SomePath users n = Unit {0}
IsFed AllPaths users n = ⊥
IsFed (AllFrom entry) users n = Reaches users (entry ∷ []) n

-- edges between nodes, then places, and a last node: from each of the first k nodes to its users, from
-- each place to the nodes that generate it, and from the last node to those that aren't fed
pub record AreSpread (paths : Paths) (next generates users : List (List ℕ)) (places k : ℕ)
    (Leads : ℕ → ℕ → Type 0) : Type 0 where
  pub draws : (n m : ℕ) → n < k → Contains (slice_index_or next n []) m → Leads m n
  pub starts : (n v : ℕ) → n < k → Contains (slice_index_or generates n []) v → Leads (length next + v) n
  pub others : (n : ℕ) → n < k → Leads (length next + places) n ⊎ IsFed paths users n

-- the graph of such edges
pub record IsSpread (paths : Paths) (next generates : List (List ℕ)) (places : ℕ)
    (spread : List (List ℕ)) : Type 0 where
  pub users : List (List ℕ)
  pub back : IsReversed next users
  pub count : length spread ≡ length next + places + 1
  pub edges : AreSpread paths next generates users places (length next) (IsEdge spread)

-- a graph of variables and, behind them, places: an edge leads from each place to the variables that have it
pub record AreOwners (by_variable : List (List ℕ)) (places : ℕ) (owners : List (List ℕ)) : Type 0 where
  pub count : length owners ≡ length by_variable + places + 1
  pub lead : (x v : ℕ) → x < length by_variable → Contains (slice_index_or by_variable x []) v →
      IsEdge owners (length by_variable + v) x

-- the first of some nodes, in rising order, to which a way leads from some places or from the last node
pub record AreSpreadFrom (spread : List (List ℕ)) (nodes places start count : ℕ) (list : List ℕ) : Type 0 where
  pub rise : AllPairs (λ n m. n < m) list
  pub inside : All (λ n. n < nodes) list
  pub starts : (n j : ℕ) → n < nodes → j < count → IsEdge spread (nodes + (start + j)) n → Contains list n
  pub last : (n : ℕ) → n < nodes → IsEdge spread (nodes + places) n → Contains list n
  pub along : (n m : ℕ) → n < nodes → Contains list m → IsEdge spread m n → Contains list n

-- nodes, in rising order, among which are all to which a place of a part may come
pub record AreTouched (paths : Paths) (next generates : List (List ℕ)) (start count : ℕ)
    (nodes : List ℕ) : Type 0 where
  pub users : List (List ℕ)
  pub back : IsReversed next users
  pub rise : AllPairs (λ n m. n < m) nodes
  pub inside : All (λ n. n < length next) nodes
  pub starts : (n j : ℕ) → n < length next → j < count →
      Contains (slice_index_or generates n []) (start + j) → Contains nodes n
  pub along : (n m : ℕ) → n < length next → Contains nodes m → Contains (slice_index_or next n []) m →
      Contains nodes n
  pub fed : (n : ℕ) → n < length next → (¬ Contains nodes n) → IsFed paths users n

-- the place of a node in a list, or the length if it isn't there
abbrev pub place_in : List ℕ → ℕ → ℕ
place_in nodes node = position_or_len (λ n. n == node) nodes

-- the places of the first k of some nodes are noted
abbrev pub AreNoted : List ℕ → ℕ → List ℕ → Type 0
AreNoted nodes k places = (i n : ℕ) → i < k → slice_index_or nodes i 0 ≡ n →
    (n < length places) × (slice_index_or places n 0 ≡ i)

-- an edge from a node to the place of one from which it draws, or from the entry to what stands for all
-- nodes that aren't there
abbrev pub IsChosenEdge : Option ℕ → List (List ℕ) → List ℕ → ℕ → ℕ → Type 0
IsChosenEdge entry next nodes i j =
    Any (λ m. place_in nodes m ≡ j) (slice_index_or next (slice_index_or nodes i 0) [])
    ⊎ (IsEntry entry (slice_index_or nodes i 0) × (j ≡ length nodes))

-- the graph that some nodes make
pub record IsChosen (entry : Option ℕ) (next : List (List ℕ)) (nodes : List ℕ) (graph : List (List ℕ))
    : Type 0 where
  pub count : length graph ≡ length nodes + 1
  pub each : (i j : ℕ) → Contains (slice_index_or graph i []) j
      ↔ ((i < length nodes) × IsChosenEdge entry next nodes i j)

-- the bits of rows of some nodes that have a value are those of which P holds
pub record HoldAt (value : Bool) (nodes : List ℕ) (count : ℕ) (P : ℕ → ℕ → Type 0) (rows : List (List Bool))
    : Type 0 where
  pub enough : length nodes ≤ length rows
  pub long : AreOfLength count rows
  pub each : (i j : ℕ) → i < length nodes → j < count →
      (item (slice_index_or rows i []) j ≡ value) ↔ P (slice_index_or nodes i 0) j
