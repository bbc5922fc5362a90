-- What is printed of an analysis of a flow graph: the sets before and after each node.
use Rattle.std.specs.Prelude.{◌≡◌, ◌↔◌, ℕ, ◌+◌, ◌<◌, Bool, true, Option, None, Some, List, [], ◌++◌, codes, cond, length, map, slice_index_or, All, AllPairs, Contains}
use Rattle.std.specs.List.{flat_map, range_with_len}
use Rattle.vob_flow.specs.Dominators.{Dominates, IsImmediate}
use Rattle.vob_flow.specs.Live.{AreLeastLive, IsSolution}
use Rattle.files_flow.specs.declared.flow.FlowGraph.{FlowGraph}
use Rattle.files_flow.specs.declared.problem.Problem.{Problem}
use Rattle.files_flow.specs.Definitions.{IsReachingProblem}
use Rattle.files_text.specs.Printed.{line_end, members, name_at}
use Rattle.files_flow.specs.FlowForms.{either, label_text, labels_text, node_head}
use Rattle.files_flow.specs.Problems.{AreBefore, IsSolved, lists_of}

-- the labels of the places of a node
abbrev pub set_text : (json : Bool) → List (List ℕ) → List (List ℕ) → ℕ → List ℕ
set_text json labels sets node = labels_text json labels (slice_index_or sets node [])

-- the line of a node: what holds before and after it
abbrev pub sides_line : (json : Bool) → (names labels before after : List (List ℕ)) → ℕ → List ℕ
sides_line json names labels before after node =
    node_head json names node
    ++ either json (codes ",\"before\":[") (codes ": before") ++ set_text json labels before node
    ++ either json (codes "],\"after\":[") (codes "; after") ++ set_text json labels after node
    ++ either json (codes "]}") line_end

-- a line for each name, in their order
abbrev pub sides_text : (json : Bool) → (names labels before after : List (List ℕ)) → List ℕ
sides_text json names labels before after =
    flat_map (sides_line json names labels before after) (range_with_len 0 (length names))

-- lines one after another, each as P says of its number, counted from 0
pub data AreLines (P : ℕ → List ℕ → Type 0) : ℕ → List ℕ → Type 0 where
  none : AreLines P 0 []
  more : {k : ℕ} {text line : List ℕ} → AreLines P k text → P k line → AreLines P (k + 1) (text ++ line)

-- the line of a node with its dominators, in rising order
pub record ListsDominatorsOf (json : Bool) (before names : List (List ℕ)) (node : ℕ) (line : List ℕ) : Type 0 where
  pub list : List ℕ
  pub rise : AllPairs (λ c d. c < d) list
  pub inside : All (λ d. d < length before) list
  pub each : (d : ℕ) → d < length before → Contains list d ↔ Dominates before 0 d node
  pub is : line ≡ node_head json names node ++ either json (codes ",\"dominators\":[") (codes ": dominators")
      ++ labels_text json names list ++ either json (codes "]}") line_end

-- the name of a node, or that there is none
abbrev pub above_text : (json : Bool) → List (List ℕ) → Option ℕ → List ℕ
above_text json names None = either json (codes "null") []
above_text json names (Some node) = label_text json true (name_at names node)

-- the line of a node with its immediate dominator, if it has one
pub record ListsImmediateOf (json : Bool) (before names : List (List ℕ)) (node : ℕ) (line : List ℕ) : Type 0 where
  pub above : Option ℕ
  pub immediate : IsImmediate before 0 node above
  pub is : line ≡ node_head json names node ++ either json (codes ",\"immediate\":") (codes ": immediate")
      ++ above_text json names above ++ either json (codes "}") line_end

-- the variables that may still be read before and after each node: the least sets that meet the
-- equations of live variables
pub record ListsLive (json : Bool) (graph : FlowGraph) (text : List ℕ) : Type 0 where
  pub before : List (List Bool)
  pub after : List (List Bool)
  pub solution : IsSolution (length graph.variables) graph.nodes.items before after
  pub least : AreLeastLive (length graph.variables) graph.nodes.items before after
  pub lines : text ≡ sides_text json graph.names graph.variables (map members before) (map members after)

-- the solution of a problem before and after each node with a name
pub record ListsSolution (json : Bool) (names : List (List ℕ)) (problem : Problem) (text : List ℕ) : Type 0 where
  pub near : List (List ℕ)
  pub far : List (List ℕ)
  pub solved : IsSolved problem near far
  pub lines : text ≡ cond problem.is_forward
      (sides_text json names (lists_of problem.labels.items) near far)
      (sides_text json names (lists_of problem.labels.items) far near)

-- the definitions that may still hold before and after each node
pub record ListsReaching (json : Bool) (graph : FlowGraph) (text : List ℕ) : Type 0 where
  pub problem : Problem
  pub of : IsReachingProblem graph problem
  pub lists : ListsSolution json graph.names problem text

-- the nodes that all paths from the first node to each pass
pub record ListsDominators (json : Bool) (graph : FlowGraph) (text : List ℕ) : Type 0 where
  pub before : List (List ℕ)
  pub are_before : AreBefore graph.nodes.items before
  pub lines : AreLines (ListsDominatorsOf json before graph.names) (length graph.names) text

-- the nearest of them for each
pub record ListsImmediate (json : Bool) (graph : FlowGraph) (text : List ℕ) : Type 0 where
  pub before : List (List ℕ)
  pub are_before : AreBefore graph.nodes.items before
  pub lines : AreLines (ListsImmediateOf json before graph.names) (length graph.names) text
