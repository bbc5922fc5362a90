-- The tree of a parse as JSON.
use Rattle.std.specs.Prelude.{◌≡◌, ℕ, List, [], ◌++◌, Option, None, Some, codes, cond, drop, length, nat_lt, slice_get}
use Rattle.std.specs.Fmt.{decimal}
use Rattle.std.specs.List.{flat_map, range_with_len}
use Rattle.vob_lr.specs.TreeNodes.{inner, nodes_at, nodes_of}
use Rattle.vob_lr.specs.Trees.{AreTreesOf, Trees}
use Rattle.vob_lr.specs.declared.tree.Node.{Node}
use Rattle.files_forms.specs.Forms.{json_name}
use Rattle.files_grammar.specs.declared.file.GrammarFile.{GrammarFile}
use Rattle.files_text.specs.Printed.{line_end}
use Rattle.files_text.specs.Words.{Token}
use Rattle.files_parse.specs.NodeNames.{node_name}
use Rattle.files_parse.specs.ParseFaults.{place_or}

-- a text before a number, unless it is the first
abbrev pub between : (text : List ℕ) → (first number : ℕ) → List ℕ
between text first number = cond (nat_lt first number) text []

-- so many numbers from one on, a text between each two
abbrev pub listed : (text : List ℕ) → (first count : ℕ) → List ℕ
listed text first count =
    flat_map (λ number. between text first number ++ decimal number) (range_with_len first count)

-- the number of a rule and those of its node's children
abbrev pub rule_fields : List Node → Node → (r : ℕ) → List ℕ
rule_fields nodes node r = codes ",\"rule\":" ++ decimal r ++ codes ",\"children\":["
    ++ listed (codes ",") node.first (length (nodes_at nodes node.first node.count)) ++ codes "]"

-- the place of a token
abbrev pub place_fields : ℕ × ℕ → List ℕ
place_fields place = codes ",\"line\":" ++ decimal place.0 ++ codes ",\"column\":" ++ decimal place.1

-- those of a rule, or else of a token
abbrev pub fields_by : List Token → List Node → Node → Option ℕ → List ℕ
fields_by words nodes node None = place_fields (place_or (slice_get words node.from) (0, 0))
fields_by words nodes node (Some r) = rule_fields nodes node r

-- which tokens a node spans
abbrev pub span_fields : Node → List ℕ
span_fields node = codes ",\"from\":" ++ decimal node.from ++ codes ",\"to\":" ++ decimal node.to ++ codes "}"

-- a node
abbrev pub json_node : GrammarFile → List Token → (tokens : List ℕ) → List Node → Node → List ℕ
json_node file words tokens nodes node =
    (line_end ++ codes "{\"symbol\":") ++ json_name (node_name file tokens node)
    ++ fields_by words nodes node node.rule ++ span_fields node

-- that with a number, if there is one, and a comma before it unless it is the first
abbrev pub json_by : GrammarFile → List Token → (tokens : List ℕ) → List Node → ℕ → Option Node → List ℕ
json_by file words tokens nodes number None = []
json_by file words tokens nodes number (Some node) =
    between (codes ",") 0 number ++ json_node file words tokens nodes node

abbrev pub json_at : GrammarFile → List Token → (tokens : List ℕ) → List Node → ℕ → List ℕ
json_at file words tokens nodes number = json_by file words tokens nodes number (slice_get nodes number)

-- nodes, numbered from 0 on, and the numbers of the roots, which are the nodes from `first` on
abbrev pub json_text : GrammarFile → List Token → (tokens : List ℕ) → List Node → (first : ℕ) → List ℕ
json_text file words tokens nodes first = codes "{\"nodes\": ["
    ++ flat_map (json_at file words tokens nodes) (range_with_len 0 (length nodes))
    ++ (line_end ++ codes "], \"roots\": [") ++ listed (codes ", ") first (length (drop first nodes))
    ++ (codes "]}" ++ line_end)

-- the JSON of the trees of a parse. Their nodes stand in the order of the reductions, and the roots last
pub record ListsJson (file : GrammarFile) (words : List Token) (tokens parsed text : List ℕ) : Type 0 where
  pub trees : Trees
  pub are_trees : AreTreesOf file.grammar.rules.items tokens parsed trees
  pub lines : text ≡ json_text file words tokens (nodes_of trees) (inner trees)
