-- The nodes of a tree in the order of their lines. No public clause cites this page.
use Rattle.std.specs.Prelude.{◌≡◌, ℕ, ◌+◌, ◌≤◌, List, [], ◌∷◌, ◌++◌, Option, None, Some, drop, length, map, reverse, slice_get, ⊤}
use Rattle.std.specs.List.{flat_map}
use Rattle.vob_lr.specs.TreeNodes.{nodes_at}
use Rattle.vob_lr.specs.declared.tree.Node.{Node}
use Rattle.vob_lr.specs.declared.tree.Tree.{Tree}
use Rattle.files_grammar.specs.declared.file.GrammarFile.{GrammarFile}
use Rattle.files_text.specs.Words.{Token}
use Rattle.files_parse.specs.NodeNames.{token_name}
use Rattle.files_parse.specs.ParseFaults.{place_or}
use Rattle.files_parse.specs.TreeText.{indent, node_line, place_text}

-- some nodes on a level
abbrev pub on_level : ℕ → List Node → List (Node × ℕ)
on_level level nodes = map (λ node. (node, level)) nodes

-- from some nodes on, the next first, the nodes in the order of their lines: one, what is below it, and the others
pub data Unfolds (nodes : List Node) : List (Node × ℕ) → List (Node × ℕ) → Type 0 where
  done : Unfolds nodes [] []
  next : {node : Node} {level : ℕ} {open_nodes lines : List (Node × ℕ)} →
      Unfolds nodes (on_level (level + 1) (nodes_at nodes node.first node.count) ++ open_nodes) lines →
      Unfolds nodes ((node, level) ∷ open_nodes) ((node, level) ∷ lines)

-- the lines of a tree
abbrev pub AreLines : Tree → List (Node × ℕ) → Type 0
AreLines tree lines = Unfolds tree.nodes.items (on_level 0 (drop tree.first tree.nodes.items)) lines

-- a tree has no more lines than nodes
abbrev pub HasLines : Tree → Type 0
HasLines tree = (lines : List (Node × ℕ)) × AreLines tree lines × (length lines ≤ length tree.nodes.items)

-- no level is above another
abbrev pub AreWithin : ℕ → List (Node × ℕ) → Type 0
AreWithin most [] = ⊤
AreWithin most (own ∷ lines) = (own.1 ≤ most) × AreWithin most lines

-- of all lines of a tree the first k are there, and the others unfold from open nodes, the last of which is next
pub record IsUnfolding (tree : Tree) (k : ℕ) (open_nodes lines : List (Node × ℕ)) : Type 0 where
  pub all : List (Node × ℕ)
  pub are : AreLines tree all
  pub short : length all ≤ length tree.nodes.items
  pub rest : List (Node × ℕ)
  pub unfolds : Unfolds tree.nodes.items (reverse open_nodes) rest
  pub cut : lines ++ rest ≡ all
  pub within : AreWithin k (reverse open_nodes)
  pub count : length lines ≡ k

-- the line of a node: of a rule, or else of the token with an index
abbrev pub line_by : GrammarFile → List Token → (tokens : List ℕ) → (level at : ℕ) → Option ℕ → List ℕ
line_by file words tokens level at (Some r) = node_line file level r
line_by file words tokens level at None =
    indent level ++ token_name file.names (slice_get tokens at) ++ place_text (place_or (slice_get words at) (0, 0))

-- that of a node on a level
abbrev pub line_of_node : GrammarFile → List Token → List ℕ → Node × ℕ → List ℕ
line_of_node file words tokens own = line_by file words tokens own.1 own.0.from own.0.rule

-- the lines of a tree, as text
abbrev pub ListsLines : GrammarFile → List Token → (tokens : List ℕ) → Tree → List ℕ → Type 0
ListsLines file words tokens tree text =
    (lines : List (Node × ℕ)) × AreLines tree lines × (text ≡ flat_map (line_of_node file words tokens) lines)
