-- The expressions of a flow graph: what its nodes read.
use Rattle.std.specs.Prelude.{◌≡◌, ◌↔◌, ◌⊎◌, ℕ, ◌<◌, Bool, true, false, List, [], ◌∷◌, ◌++◌, codes, filter, length, map, slice_index_or, Some, slice_get, Contains}
use Rattle.std.specs.List.{flat_map}
use Rattle.vob_flow.specs.Reach.{HasWay}
use Rattle.vob_flow.specs.declared.live.Flow.{Flow}
use Rattle.files_text.specs.Names.{names_in}
use Rattle.files_text.specs.Printed.{name_at}
use Rattle.files_flow.specs.Problems.{next_of}

abbrev pub reads_any : List ℕ → Bool
reads_any [] = false
reads_any (variable ∷ reads) = true

-- the expressions: the variables that a node reads, in their order, each list once; a node that reads
-- nothing has none
abbrev pub expressions_of : List Flow → List (List ℕ)
expressions_of nodes = names_in (filter reads_any (map (λ node. node.reads.items) nodes))

-- how an expression is called: `(a b)` for one that reads a and b
abbrev pub expression_label : List (List ℕ) → List ℕ → List ℕ
expression_label variables [] = codes "()"
expression_label variables (first ∷ others) = codes "(" ++ name_at variables first
    ++ flat_map (λ variable. codes " " ++ name_at variables variable) others ++ codes ")"

-- the number of the expression of what a node reads, or none
abbrev pub IsOwn : (expressions : List (List ℕ)) → (reads own : List ℕ) → Type 0
IsOwn expressions [] own = own ≡ []
IsOwn expressions (variable ∷ reads) own =
    (number : ℕ) × (slice_get expressions number ≡ Some (variable ∷ reads)) × (own ≡ number ∷ [])

-- two lists have a number in common
abbrev pub Meet : List ℕ → List ℕ → Type 0
Meet some others = (number : ℕ) × Contains some number × Contains others number

-- the same if the node doesn't write any of what it reads
abbrev pub IsLasting : (expressions : List (List ℕ)) → Flow → List ℕ → Type 0
IsLasting expressions node own = (Meet node.writes.items node.reads.items × (own ≡ []))
    ⊎ ((¬ Meet node.writes.items node.reads.items) × IsOwn expressions node.reads.items own)

-- for each number below a count the lists that have it
pub record AreTransposed (count : ℕ) (lists after : List (List ℕ)) : Type 0 where
  pub many : length after ≡ count
  pub each : (n m : ℕ) → n < count →
      Contains (slice_index_or after n []) m ↔ Contains (slice_index_or lists m []) n

-- for each node the nodes before it to which a path from the first node leads
pub record AreReachedBefore (nodes : List Flow) (before : List (List ℕ)) : Type 0 where
  pub count : length before ≡ length nodes
  pub each : (n m : ℕ) → n < length nodes → Contains (slice_index_or before n []) m
      ↔ (Contains (next_of nodes m) n × HasWay (map (λ node. node.next.items) nodes) 0 m)
