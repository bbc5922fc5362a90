-- Dataflow problems by lists, and the sets that solve them.
use Rattle.std.specs.Prelude.{◌≡◌, ◌↔◌, ◌⊎◌, ℕ, ◌<◌, Bool, false, List, [], ◌∷◌, length, map, slice_index_or, Contains}
use Rattle.std.specs.List.{range_with_len}
use Rattle.vob_rows.specs.Graph.{LeadToNodes}
use Rattle.vob_rows.specs.Sparse.{members}
pub use Rattle.vob_flow.specs.Lists.{IsBelowEach, Solve, keeps, lists_of, sets_of}
use Rattle.vob_flow.specs.declared.lists.Paths.TheVariants.{Some as SomePath}
use Rattle.vob_flow.specs.declared.live.Flow.{Flow}
use Rattle.files_flow.specs.declared.flow.FlowGraph.{FlowGraph}
use Rattle.files_flow.specs.declared.problem.Problem.{Problem}

-- a number was added to each of some lists
pub record IsAddedTo (some : List ℕ) (number : ℕ) (lists after : List (List ℕ)) : Type 0 where
  pub count : length after ≡ length lists
  pub each : (n m : ℕ) → n < length lists → Contains (slice_index_or after n []) m
      ↔ (Contains (slice_index_or lists n []) m ⊎ (Contains some n × (m ≡ number)))

-- the nodes that come next to a node
abbrev pub next_of : List Flow → ℕ → List ℕ
next_of nodes n = slice_index_or (map (λ node. node.next.items) nodes) n []

-- for each node the nodes that come before it
pub record AreBefore (nodes : List Flow) (before : List (List ℕ)) : Type 0 where
  pub count : length before ≡ length nodes
  pub each : (n m : ℕ) → n < length nodes →
      Contains (slice_index_or before n []) m ↔ Contains (next_of nodes m) n

-- lists for each node from which edges lead, whose numbers are nodes, places and variables
pub record IsSound (problem : Problem) : Type 0 where
  pub edges : LeadToNodes (lists_of problem.from.items) (length problem.from.items)
  pub generates : length problem.generates.items ≡ length problem.from.items
  pub writes : length problem.writes.items ≡ length problem.from.items
  pub places : IsBelowEach (length problem.labels.items) (lists_of problem.generates.items)
  pub own_places : IsBelowEach (length problem.labels.items) (lists_of problem.by_variable.items)
  pub variables : IsBelowEach (length problem.by_variable.items) (lists_of problem.writes.items)

-- the places on the near side of each node, from where it draws, and on the far one: those of the sets
-- that solve a problem, where each node keeps what it doesn't kill
pub record IsSolved (problem : Problem) (near far : List (List ℕ)) : Type 0 where
  pub near_sets : List (List Bool)
  pub far_sets : List (List Bool)
  pub solved : Solve problem.paths (length problem.labels.items) (lists_of problem.from.items)
      (keeps (lists_of problem.by_variable.items) (lists_of problem.writes.items))
      (sets_of (length problem.labels.items) (lists_of problem.generates.items)) near_sets far_sets
  pub near_is : near ≡ map members near_sets
  pub far_is : far ≡ map members far_sets

-- a node generates what it reads, and kills what it writes
pub record IsLiveProblem (graph : FlowGraph) (problem : Problem) : Type 0 where
  pub paths : problem.paths ≡ SomePath
  pub backward : problem.is_forward ≡ false
  pub labels : lists_of problem.labels.items ≡ graph.variables
  pub generates : lists_of problem.generates.items ≡ map (λ node. node.reads.items) graph.nodes.items
  pub by_variable : lists_of problem.by_variable.items
      ≡ map (λ x. x ∷ []) (range_with_len 0 (length graph.variables))
  pub writes : lists_of problem.writes.items ≡ map (λ node. node.writes.items) graph.nodes.items
  pub from : lists_of problem.from.items ≡ map (λ node. node.next.items) graph.nodes.items
