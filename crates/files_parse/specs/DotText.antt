-- The tree of a parse as a graph in DOT.
use Rattle.std.specs.Prelude.{◌≡◌, ℕ, List, [], ◌++◌, Option, None, Some, codes, length, slice_get}
use Rattle.std.specs.Fmt.{decimal}
use Rattle.std.specs.List.{flat_map, range_with_len}
use Rattle.vob_lr.specs.TreeNodes.{nodes_at, nodes_of}
use Rattle.vob_lr.specs.Trees.{AreTreesOf, Trees}
use Rattle.vob_lr.specs.declared.tree.Node.{Node}
use Rattle.files_forms.specs.Forms.{label}
use Rattle.files_grammar.specs.declared.file.GrammarFile.{GrammarFile}
use Rattle.files_text.specs.Printed.{line_end}
use Rattle.files_parse.specs.NodeNames.{node_name}

-- the line of an edge
abbrev pub dot_edge : (from to : ℕ) → List ℕ
dot_edge from to = codes "  n" ++ decimal from ++ codes " -> n" ++ decimal to ++ (codes ";" ++ line_end)

-- the numbers of the children of a node
abbrev pub children_of : List Node → Node → List ℕ
children_of nodes node = range_with_len node.first (length (nodes_at nodes node.first node.count))

-- the lines of a node: its label, and its edges
abbrev pub dot_node : GrammarFile → (tokens : List ℕ) → List Node → ℕ → Node → List ℕ
dot_node file tokens nodes number node = codes "  n" ++ decimal number ++ codes " [label="
    ++ label (node_name file tokens node) ++ (codes "];" ++ line_end)
    ++ flat_map (dot_edge number) (children_of nodes node)

-- those of the node with a number, if there is one
abbrev pub dot_by : GrammarFile → (tokens : List ℕ) → List Node → ℕ → Option Node → List ℕ
dot_by file tokens nodes number None = []
dot_by file tokens nodes number (Some node) = dot_node file tokens nodes number node

abbrev pub dot_at : GrammarFile → (tokens : List ℕ) → List Node → ℕ → List ℕ
dot_at file tokens nodes number = dot_by file tokens nodes number (slice_get nodes number)

-- what stands before the nodes
abbrev pub dot_head : List ℕ
dot_head = (codes "digraph tree {" ++ line_end) ++ (codes "  ordering=out;" ++ line_end)
    ++ (codes "  node [shape=plain];" ++ line_end)

-- a graph of nodes, numbered from 0 on
abbrev pub dot_text : GrammarFile → (tokens : List ℕ) → List Node → List ℕ
dot_text file tokens nodes =
    dot_head ++ flat_map (dot_at file tokens nodes) (range_with_len 0 (length nodes)) ++ (codes "}" ++ line_end)

-- the graph of the trees of a parse. Their nodes stand in the order of the reductions, and the roots last
pub record ListsDot (file : GrammarFile) (tokens parsed text : List ℕ) : Type 0 where
  pub trees : Trees
  pub are_trees : AreTreesOf file.grammar.rules.items tokens parsed trees
  pub lines : text ≡ dot_text file tokens (nodes_of trees)
