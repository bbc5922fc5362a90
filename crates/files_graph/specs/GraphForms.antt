-- The forms in which edges and nodes are written: lines, a graph in DOT, or JSON.
use Rattle.std.specs.Prelude.{◌==◌, ◌&&◌, ℕ, Bool, false, List, [], ◌++◌, Option, None, Some, codes, length, map}
use Rattle.std.specs.List.{flat_map, range_with_len}
use Rattle.files_forms.specs.Forms.{comma, first_of, is_first, json_name, label}
use Rattle.files_text.specs.Printed.{line_end, name_at, name_line}
use Rattle.files_graph.specs.declared.form.GraphForm.{GraphForm}
use Rattle.files_graph.specs.declared.form.GraphForm.TheVariants.{Dot, Json}

-- whether an edge is the first
abbrev pub is_first_edge : Option (ℕ × ℕ) → ℕ × ℕ → Bool
is_first_edge None edge = false
is_first_edge (Some first) edge = (first.0 == edge.0) && (first.1 == edge.1)

-- the line of an edge from one node to another
abbrev pub edge_line : List (List ℕ) → ℕ × ℕ → List ℕ
edge_line names edge = name_at names edge.0 ++ (codes " " ++ name_at names edge.1) ++ line_end

-- an edge in DOT
abbrev pub dot_edge : List (List ℕ) → ℕ × ℕ → List ℕ
dot_edge names edge =
    codes "  " ++ label (name_at names edge.0) ++ codes " -> " ++ label (name_at names edge.1) ++ (codes ";" ++ line_end)

-- an edge in JSON
abbrev pub json_edge : List (List ℕ) → ℕ × ℕ → List ℕ
json_edge names edge = (line_end ++ codes "[") ++ name_at (map json_name names) edge.0
    ++ codes "," ++ name_at (map json_name names) edge.1 ++ codes "]"

-- an edge in a form
abbrev pub edge_item : Option GraphForm → List (List ℕ) → (first : Option (ℕ × ℕ)) → ℕ × ℕ → List ℕ
edge_item None names first edge = edge_line names edge
edge_item (Some Dot) names first edge = dot_edge names edge
edge_item (Some Json) names first edge = comma (is_first_edge first edge) ++ json_edge names edge

-- a node in DOT
abbrev pub dot_node : List (List ℕ) → ℕ → List ℕ
dot_node names node = codes "  " ++ label (name_at names node) ++ (codes ";" ++ line_end)

-- a node in JSON
abbrev pub json_node : List (List ℕ) → ℕ → List ℕ
json_node names node = line_end ++ name_at (map json_name names) node

-- a node in a form
abbrev pub node_item : Option GraphForm → List (List ℕ) → (first : Option ℕ) → ℕ → List ℕ
node_item None names first node = name_line names node
node_item (Some Dot) names first node = dot_node names node
node_item (Some Json) names first node = comma (is_first first node) ++ json_node names node

-- what stands before nodes
abbrev pub nodes_head : Option GraphForm → List ℕ
nodes_head None = []
nodes_head (Some Dot) = codes "digraph {" ++ line_end
nodes_head (Some Json) = codes "{\"nodes\": ["

-- what stands behind edges, or nodes without edges
abbrev pub tail : Option GraphForm → List ℕ
tail None = []
tail (Some Dot) = codes "}" ++ line_end
tail (Some Json) = line_end ++ codes "]}" ++ line_end

-- the nodes that stand before edges: all in a graph, none in lines
abbrev pub all_nodes : Option GraphForm → List (List ℕ) → List ℕ
all_nodes None names = []
all_nodes (Some form) names = flat_map (node_item (Some form) names (Some 0)) (range_with_len 0 (length names))

-- what stands between nodes and edges
abbrev pub edges_head : Option GraphForm → List ℕ
edges_head None = []
edges_head (Some Dot) = []
edges_head (Some Json) = line_end ++ codes "], \"edges\": ["

-- what stands before edges
abbrev pub before_edges : Option GraphForm → List (List ℕ) → List ℕ
before_edges form names = nodes_head form ++ all_nodes form names ++ edges_head form

-- some edges in a form
abbrev pub edges_text : Option GraphForm → List (List ℕ) → List (ℕ × ℕ) → List ℕ
edges_text form names edges =
    before_edges form names ++ flat_map (edge_item form names (first_of edges)) edges ++ tail form

-- some nodes in a form
abbrev pub nodes_text : Option GraphForm → List (List ℕ) → List ℕ → List ℕ
nodes_text form names nodes =
    nodes_head form ++ flat_map (node_item form names (first_of nodes)) nodes ++ tail form

-- names, and the form in which they are written
pub record InForm : Type 0 where
  pub names : List (List ℕ)
  pub form : Option GraphForm
