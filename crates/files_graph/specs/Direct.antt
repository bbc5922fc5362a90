-- The edges of a graph that no path of several edges stands for, where edges lead to lower nodes.
use Rattle.std.specs.Prelude.{◌≡◌, ◌≢◌, ◌↔◌, ◌⊎◌, ℕ, ◌+◌, ◌<◌, ◌≤◌, true, false, List, [], ◌∷◌, ◌++◌, length, slice_index_or, Contains}
use Rattle.vob_block.specs.Packing.{item}
use Rattle.vob.specs.Bits.{count_of, IsWritten}
use Rattle.vob_flow.specs.Closure.{IsEdge}
use Rattle.vob_flow.specs.Components.{IsAmong}
use Rattle.vob_flow.specs.Reach.{HasWay}
use Rattle.files_graph.specs.declared.direct.Search.{Search}

-- edges lead to lower nodes
abbrev pub LeadsDown : List (List ℕ) → Type 0
LeadsDown links = (n m : ℕ) → IsEdge links n m → m < n

-- an edge from node n to node m, where no path to m begins with another edge of n
pub record IsDirect (links : List (List ℕ)) (n m : ℕ) : Type 0 where
  pub edge : IsEdge links n m
  pub alone : (s : ℕ) → IsEdge links n s → s ≢ m → ¬ HasWay links s m

-- edges got those of node n that are direct
abbrev pub GainDirect : List (List ℕ) → ℕ → List (ℕ × ℕ) → List (ℕ × ℕ) → Type 0
GainDirect links n edges after = (k m : ℕ) →
    Contains after (k, m) ↔ (Contains edges (k, m) ⊎ ((k ≡ n) × IsDirect links n m))

-- a search that has found nothing
pub record IsClear (count : ℕ) (search : Search) : Type 0 where
  pub seen_long : length search.seen.bits ≡ count
  pub missing_long : length search.missing.bits ≡ count
  pub unseen : (x : ℕ) → item search.seen.bits x ≡ false
  pub none : (x : ℕ) → item search.missing.bits x ≡ false
  pub left : search.left ≡ 0
  pub found : search.found.items ≡ []
  pub followed : search.followed ≡ 0

-- the nodes that were found are those that were seen, each once, and the missing are counted
pub record IsSearch (count : ℕ) (search : Search) : Type 0 where
  pub seen_long : length search.seen.bits ≡ count
  pub missing_long : length search.missing.bits ≡ count
  pub listed : (j : ℕ) → j < length search.found.items →
      item search.seen.bits (slice_index_or search.found.items j 0) ≡ true
  pub whole : (x : ℕ) → item search.seen.bits x ≡ true →
      IsAmong (length search.found.items) search.found.items x
  pub steps : count_of false search.seen.bits + length search.found.items ≡ count
  pub left_is : search.left ≡ count_of true search.missing.bits
  pub within : search.followed ≤ length search.found.items

-- what was found is what paths lead to from some starts, as far as edges to nodes at or above the lowest
-- were followed, and what is missing are ends that weren't found
pub record IsFrom (links : List (List ℕ)) (ends starts : List ℕ) (lowest : ℕ) (search : Search)
    : Type 0 where
  pub sound : (x : ℕ) → item search.seen.bits x ≡ true →
      (s : ℕ) × Contains starts s × HasWay links s x
  pub wanted : (t : ℕ) → (item search.missing.bits t ≡ true)
      ↔ (Contains ends t × (item search.seen.bits t ≡ false))
  pub closed : (j y : ℕ) → j < search.followed →
      IsEdge links (slice_index_or search.found.items j 0) y → lowest ≤ y → item search.seen.bits y ≡ true

-- a node was found
pub record HasFound (node : ℕ) (old new : Search) : Type 0 where
  pub found : new.found.items ≡ old.found.items ++ node ∷ []
  pub followed : new.followed ≡ old.followed
  pub seen : IsWritten old.seen.bits node true new.seen.bits
  pub missing : IsWritten old.missing.bits node false new.missing.bits
  pub left : new.left ≡ count_of true new.missing.bits

-- nodes were found behind those before
pub record HasFoundMore (old new : Search) : Type 0 where
  pub kept : (x : ℕ) → item old.seen.bits x ≡ true → item new.seen.bits x ≡ true
  pub longer : length old.found.items ≤ length new.found.items
  pub prefix : (j : ℕ) → j < length old.found.items →
      slice_index_or new.found.items j 0 ≡ slice_index_or old.found.items j 0
  pub followed : new.followed ≡ old.followed
  pub fewer : count_of true new.missing.bits ≤ count_of true old.missing.bits
