-- The nodes of a graph that paths from some nodes lead to.
use Rattle.std.specs.Prelude.{◌≡◌, ◌↔◌, ◌⊎◌, ℕ, ◌+◌, ◌≤◌, Bool, true, false, List, [], ◌∷◌, length, Contains}
use Rattle.vob_block.specs.Packing.{item}
use Rattle.vob.specs.Bits.{count_of}
use Rattle.vob_flow.specs.Closure.{IsEdge}

-- a path of any number of edges leads from one of the first nodes to node n
pub data Reaches (next : List (List ℕ)) (from : List ℕ) : ℕ → Type 0 where
  at_start : {n : ℕ} → Contains from n → Reaches next from n
  along : {n m : ℕ} → Reaches next from n → IsEdge next n m → Reaches next from m

-- a path of any number of edges leads from node n to node m
abbrev pub HasWay : List (List ℕ) → ℕ → ℕ → Type 0
HasWay next n m = Reaches next (n ∷ []) m

-- the set of the nodes that such a path leads to
pub record AreReached (next : List (List ℕ)) (from : List ℕ) (set : List Bool) : Type 0 where
  pub len : length set ≡ length next
  pub each : (n : ℕ) → (item set n ≡ true) ↔ Reaches next from n

-- nodes were reached, and those wait that weren't before
pub record HaveEntered (nodes : List ℕ) (reached : List Bool) (waiting : List ℕ)
    (after : List Bool) (waits : List ℕ) : Type 0 where
  pub len : length after ≡ length reached
  pub kept : (n : ℕ) → item reached n ≡ true → item after n ≡ true
  pub given : (n : ℕ) → Contains nodes n → item after n ≡ true
  pub only : (n : ℕ) → item after n ≡ true → (item reached n ≡ true) ⊎ Contains nodes n
  pub new : (n : ℕ) → item after n ≡ true → (item reached n ≡ true) ⊎ Contains waits n
  pub old : (n : ℕ) → Contains waiting n → Contains waits n
  pub there : (n : ℕ) → Contains waits n →
      Contains waiting n ⊎ ((item after n ≡ true) × (item reached n ≡ false))
  pub steps : count_of false after + length waits ≤ count_of false reached + length waiting

-- the nodes that were reached so far: each waits, or all that its edges lead to were reached
pub record AreOnTheWay (next : List (List ℕ)) (from : List ℕ) (reached : List Bool)
    (waiting : List ℕ) : Type 0 where
  pub len : length reached ≡ length next
  pub starts : (n : ℕ) → Contains from n → item reached n ≡ true
  pub reaches : (n : ℕ) → item reached n ≡ true → Reaches next from n
  pub waits : (n : ℕ) → Contains waiting n → item reached n ≡ true
  pub done : (n : ℕ) → item reached n ≡ true →
      Contains waiting n ⊎ ((m : ℕ) → IsEdge next n m → item reached m ≡ true)
