-- The definitions of a flow graph: what its nodes write.
use Rattle.std.specs.Prelude.{◌≡◌, ◌↔◌, ℕ, ◌<◌, true, List, [], ◌++◌, codes, length, map, slice_get, slice_index_or, Some, Contains}
use Rattle.std.specs.List.{flat_map, range_with_len}
use Rattle.vob_flow.specs.declared.lists.Paths.TheVariants.{Some as SomePath}
use Rattle.vob_flow.specs.declared.live.Flow.{Flow}
use Rattle.files_flow.specs.declared.flow.FlowGraph.{FlowGraph}
use Rattle.files_flow.specs.declared.problem.Problem.{Problem}
use Rattle.files_text.specs.Printed.{name_at}
use Rattle.files_flow.specs.Problems.{AreBefore, lists_of}

-- the variables that a node writes
abbrev pub writes_of : List Flow → ℕ → List ℕ
writes_of nodes n = slice_index_or (map (λ node. node.writes.items) nodes) n []

-- a definition is a node and a variable that it writes
abbrev pub definitions_at : ℕ → List ℕ → List (ℕ × ℕ)
definitions_at node writes = map (λ variable. (node, variable)) writes

-- all definitions, node by node
abbrev pub definitions_of : List Flow → List (ℕ × ℕ)
definitions_of nodes =
    flat_map (λ n. definitions_at n (writes_of nodes n)) (range_with_len 0 (length nodes))

-- for each number below a count the places where it stands among keys
pub record AreGrouped (count : ℕ) (keys : List ℕ) (lists : List (List ℕ)) : Type 0 where
  pub many : length lists ≡ count
  pub each : (n k : ℕ) → n < count →
      Contains (slice_index_or lists n []) k ↔ (slice_get keys k ≡ Some n)

-- how a definition is called
abbrev pub definition_label : List (List ℕ) → List (List ℕ) → ℕ × ℕ → List ℕ
definition_label names variables made = name_at variables made.1 ++ codes "@" ++ name_at names made.0

-- a node makes its definitions, and ends those of the variables that it writes
pub record IsReachingProblem (graph : FlowGraph) (problem : Problem) : Type 0 where
  pub paths : problem.paths ≡ SomePath
  pub forward : problem.is_forward ≡ true
  pub labels : lists_of problem.labels.items
      ≡ map (definition_label graph.names graph.variables) (definitions_of graph.nodes.items)
  pub generates : AreGrouped (length graph.nodes.items)
      (map (λ made. made.0) (definitions_of graph.nodes.items)) (lists_of problem.generates.items)
  pub by_variable : AreGrouped (length graph.variables)
      (map (λ made. made.1) (definitions_of graph.nodes.items)) (lists_of problem.by_variable.items)
  pub writes : lists_of problem.writes.items ≡ map (λ node. node.writes.items) graph.nodes.items
  pub from : AreBefore graph.nodes.items (lists_of problem.from.items)
