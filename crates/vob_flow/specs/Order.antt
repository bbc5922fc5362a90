-- The order in which sets have their turns. No public clause cites this page.
use Rattle.std.specs.Prelude.{◌≡◌, ◌⊎◌, ℕ, ◌+◌, ◌-◌, ◌*◌, ◌^◌, ◌<◌, ◌≤◌, Bool, true, false, List, [], length, map, slice_index_or, All, Contains}
use Rattle.vob_block.specs.Packing.{item}
use Rattle.vob.specs.Bits.{count_of}
use Rattle.vob_flow.specs.Closure.{IsEdge}
use Rattle.vob_flow.specs.declared.order.Visit.{Visit}
use Rattle.vob_flow.specs.Reach.{HasWay}

-- the sets that wait
abbrev pub sets_of : List Visit → List ℕ
sets_of stack = map (λ visit. visit.set) stack

-- at most how many steps are left: two for each set that wasn't seen, and one for each that waits
abbrev pub steps_left : List Bool → List ℕ → ℕ
steps_left seen waiting = 2 * count_of false seen + length waiting

-- what was seen is still seen
abbrev pub SeesMore : List Bool → List Bool → Type 0
SeesMore seen after = (k : ℕ) → item seen k ≡ true → item after k ≡ true

-- the set at which an order begins after k others: from the last of n down, or from the first up
abbrev pub root_of : Bool → ℕ → ℕ → ℕ
root_of true n k = n - (k + 1)
root_of false n k = k

-- a set that waits, of whose draws some were looked at
abbrev pub visit_of : ℕ → ℕ → Visit
visit_of set looked = record { set = set; looked = looked }

-- those were seen
abbrev pub HasLooked : List (List ℕ) → List Bool → Visit → Type 0
HasLooked next seen visit = (j : ℕ) → j < visit.looked →
    item seen (slice_index_or (slice_index_or next visit.set []) j 0) ≡ true

-- a way leads from each set that waits to each that waits later
abbrev pub IsChain : List (List ℕ) → List ℕ → Type 0
IsChain next waiting = (i j : ℕ) → i ≤ j → j < length waiting →
    HasWay next (slice_index_or waiting i 0) (slice_index_or waiting j 0)

-- from the nodes up to each place of an order, an edge leads to one of them, or to a node from which a
-- way leads to the one at that place
abbrev pub IsPostorder : List (List ℕ) → List ℕ → Type 0
IsPostorder next order = (p q n : ℕ) → q ≤ p → p < length order →
    IsEdge next (slice_index_or order q 0) n →
    ((r : ℕ) × (r ≤ p) × (slice_index_or order r 0 ≡ n)) ⊎ HasWay next n (slice_index_or order p 0)

-- what a search found so far
pub record IsSearched (next : List (List ℕ)) (seen : List Bool) (stack : List Visit)
    (order : List ℕ) : Type 0 where
  pub known : (n m : ℕ) → Contains order n → IsEdge next n m → item seen m ≡ true
  pub looked : All (HasLooked next seen) stack
  pub chain : IsChain next (sets_of stack)
  pub post : IsPostorder next order

-- the first set of some, past those that were looked at, that was not seen
pub record IsNextUnseen (from : List ℕ) (looked : ℕ) (seen : List Bool) (next : Visit) : Type 0 where
  pub place : ℕ
  pub inside : place < length from
  pub is : slice_index_or from place 0 ≡ next.set
  pub looked_is : next.looked ≡ place + 1
  pub past : (j : ℕ) → looked ≤ j → j < place → item seen (slice_index_or from j 0) ≡ true

-- the sets that were seen are in the order or wait, and each has one place; those of the sets that
-- wait are past all others
pub record IsVisited (n : ℕ) (seen : List Bool) (waiting order : List ℕ) : Type 0 where
  pub len : length seen ≡ n
  pub seen_order : All (λ k. item seen k ≡ true) order
  pub seen_waiting : All (λ k. item seen k ≡ true) waiting
  pub found : (k : ℕ) → item seen k ≡ true → Contains order k ⊎ Contains waiting k
  pub place : ℕ → ℕ
  pub places : (j : ℕ) → j < length order → place (slice_index_or order j 0) ≡ j
  pub waits : (j : ℕ) → j < length waiting → place (slice_index_or waiting j 0) ≡ 2 ^ 64 + j
