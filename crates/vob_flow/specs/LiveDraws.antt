-- Liveness as sets that draw from one another. No public clause cites this page.
use Rattle.std.specs.Prelude.{◌≡◌, ◌↔◌, ℕ, ◌<◌, List, [], length, slice_get, slice_index_or, Some, Contains}
use Rattle.vob_flow.specs.declared.live.Flow.{Flow}

-- node n has v in a list of its own
abbrev pub Names : (Flow → List ℕ) → List Flow → ℕ → ℕ → Type 0
Names part nodes n v = (flow : Flow) × (slice_get nodes n ≡ Some flow) × Contains (part flow) v

-- node n reads v
abbrev pub Reads : List Flow → ℕ → ℕ → Type 0
Reads nodes n v = Names (λ flow. flow.reads.items) nodes n v

-- node n writes v
abbrev pub Writes : List Flow → ℕ → ℕ → Type 0
Writes nodes n v = Names (λ flow. flow.writes.items) nodes n v

-- node m comes next to node n
abbrev pub LeadsTo : List Flow → ℕ → ℕ → Type 0
LeadsTo nodes n m = Names (λ flow. flow.next.items) nodes n m

-- the edges of the first k nodes
abbrev pub AreEdges : List Flow → ℕ → List (ℕ × ℕ) → Type 0
AreEdges nodes k edges =
    (n m : ℕ) → Contains edges (n, m) ↔ ((n < k) × LeadsTo nodes n m)

-- the graph with those of all nodes
pub record IsFlowGraph (nodes : List Flow) (next : List (List ℕ)) : Type 0 where
  pub count : length next ≡ length nodes
  pub each : (n m : ℕ) → Contains (slice_index_or next n []) m ↔ LeadsTo nodes n m
