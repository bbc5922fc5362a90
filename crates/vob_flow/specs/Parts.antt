-- Problems that are solved for some places at a time. No public clause cites this page.
use Rattle.std.specs.Prelude.{true, false, ◌≡◌, ◌↔◌, ℕ, ◌<◌, Bool, List, [], length, map, slice_index_or, All, Any, Contains, Option, None, Some}
use Rattle.vob_block.specs.Packing.{item}
use Rattle.vob.specs.Vobs.{AreOfLength}
use Rattle.vob_rows.specs.Sparse.{SparseMatrix, members}
use Rattle.vob_flow.specs.Available.{IsEntry}
use Rattle.vob_flow.specs.Draws.{Comes}
use Rattle.vob_flow.specs.Greatest.{Misses, away}
use Rattle.vob_flow.specs.declared.lists.Paths.{Paths}
use Rattle.vob_flow.specs.declared.lists.Paths.TheVariants.{Some as SomePath, All as AllPaths, AllFrom}

-- the list of the i-th of some nodes
abbrev pub chosen : List (List ℕ) → List ℕ → ℕ → List ℕ
chosen lists nodes i = slice_index_or (map (λ n. slice_index_or lists n []) nodes) i []

-- a node that writes some variables kills place v: it is of one of them
abbrev pub Kills : List (List ℕ) → List ℕ → ℕ → Type 0
Kills by_variable writes v = Any (λ x. Contains (slice_index_or by_variable x []) v) writes

-- the bits of some rows that have a value are those of which P holds
pub record HoldThere (value : Bool) (nodes count : ℕ) (P : ℕ → ℕ → Type 0) (rows : List (List Bool))
    : Type 0 where
  pub count_is : length rows ≡ nodes
  pub long : AreOfLength count rows
  pub each : (n v : ℕ) → n < nodes → v < count →
      (item (slice_index_or rows n []) v ≡ value) ↔ P n v

-- the bits that tell what a problem asks of far sides: on some path the set ones, on all the unset
abbrev pub value_of : Paths → Bool
value_of SomePath = true
value_of AllPaths = false
value_of (AllFrom entry) = false

module _ (next : List (List ℕ)) (mask : ℕ → ℕ → Bool) (gens : List (List Bool)) where
  -- v holds on the near side of node n on some path
  abbrev pub DrawsNear : ℕ → ℕ → Type 0
  DrawsNear n v = Any (λ m. Comes next mask gens m v) (slice_index_or next n [])

  -- v is missing on the far side on some path
  abbrev pub MissesFar : Option ℕ → ℕ → ℕ → Type 0
  MissesFar entry n v = Misses next (away entry mask) gens n v

  -- v holds on the near side on all paths
  abbrev pub HoldsNear : Option ℕ → ℕ → ℕ → Type 0
  HoldsNear entry n v =
      (¬ IsEntry entry n) × All (λ m. ¬ MissesFar entry m v) (slice_index_or next n [])

  -- what the bits of a problem tell of far sides, and of near ones
  abbrev pub Far : Paths → ℕ → ℕ → Type 0
  Far SomePath n v = Comes next mask gens n v
  Far AllPaths n v = MissesFar None n v
  Far (AllFrom entry) n v = MissesFar (Some entry) n v

  abbrev pub Near : Paths → ℕ → ℕ → Type 0
  Near SomePath n v = DrawsNear n v
  Near AllPaths n v = HoldsNear None n v
  Near (AllFrom entry) n v = HoldsNear (Some entry) n v

  -- the set bits of the first columns on both sides
  pub record AreSolvedBelow (paths : Paths) (columns : ℕ) (near far : SparseMatrix) : Type 0 where
    pub near_sets : List (List Bool)
    pub far_sets : List (List Bool)
    pub near_hold : HoldThere true (length next) columns (Near paths) near_sets
    pub far_hold : HoldThere (value_of paths) (length next) columns (Far paths) far_sets
    pub near_is : near.rows ≡ map members near_sets
    pub far_is : far.rows ≡ map members far_sets
    pub near_columns : near.columns ≡ columns
    pub far_columns : far.columns ≡ columns
