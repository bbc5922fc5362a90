-- What is printed of the closure of a graph.
use Rattle.std.specs.Prelude.{◌≡◌, ◌↔◌, ◌⊎◌, ℕ, ◌<◌, Bool, List, [], map, slice_get, slice_index_or, Option, Some, AllPairs, Contains}
use Rattle.std.specs.List.{flat_map, range_with_len}
use Rattle.vob_flow.specs.Closure.{Leads}
use Rattle.files_text.specs.Printed.{members}
use Rattle.files_graph.specs.declared.closure.Part.{Part}
use Rattle.files_graph.specs.declared.closure.Part.TheVariants.{Edges, From, Fewest}
use Rattle.files_graph.specs.declared.form.GraphForm.{GraphForm}
use Rattle.files_graph.specs.GraphForms.{edges_text, nodes_text}
use Rattle.files_graph.specs.Reduction.{IsReduced}

-- an edge comes before another: its first node does, or its second if they share the first
abbrev pub IsBefore : ℕ × ℕ → ℕ × ℕ → Type 0
IsBefore edge other = (edge.0 < other.0) ⊎ ((edge.0 ≡ other.0) × (edge.1 < other.1))

-- in a form, each edge of which P holds, once, in the order of the nodes
pub record ListsEdges (form : Option GraphForm) (names : List (List ℕ)) (P : ℕ → ℕ → Type 0) (text : List ℕ)
    : Type 0 where
  pub edges : List (ℕ × ℕ)
  pub is : text ≡ edges_text form names edges
  pub each : (n m : ℕ) → Contains edges (n, m) ↔ P n m
  pub order : AllPairs IsBefore edges

-- in a form, each node of which P holds, once, in the order of the nodes
pub record ListsNodes (form : Option GraphForm) (names : List (List ℕ)) (P : ℕ → Type 0) (text : List ℕ)
    : Type 0 where
  pub nodes : List ℕ
  pub is : text ≡ nodes_text form names nodes
  pub each : (n : ℕ) → Contains nodes n ↔ P n
  pub order : AllPairs (λ n m. n < m) nodes

-- a part of the closure of a graph, in a form
abbrev pub ListsPart : Option GraphForm → (names next : List (List ℕ)) → Part → List ℕ → Type 0
ListsPart form names next Edges text = ListsEdges form names (Leads next) text
ListsPart form names next (From name) text =
    (node : ℕ) × (slice_get names node ≡ Some name.now) × ListsNodes form names (Leads next node) text
ListsPart form names next Fewest text = ListsEdges form names (IsReduced next) text

-- the edges from one node to those in its set
abbrev pub edges_from : ℕ → List Bool → List (ℕ × ℕ)
edges_from node set = map (λ to. (node, to)) (members set)

-- the edges from each node, of some number of nodes from one on
abbrev pub edges_of : List (List Bool) → ℕ → ℕ → List (ℕ × ℕ)
edges_of sets node count =
    flat_map (λ n. edges_from n (slice_index_or sets n [])) (range_with_len node count)
