-- The names of nodes in JSON. No public clause cites this page.
use Rattle.std.specs.Prelude.{◌≡◌, ℕ, List, String, map}
use Rattle.std.specs.String.{string_bytes}
use Rattle.std.specs.declared.alloc.Global.{Global}
use Rattle.vob_lr.specs.declared.tree.Node.{Node}
use Rattle.files_forms.specs.Forms.{json_name}
use Rattle.files_grammar.specs.declared.file.GrammarFile.{GrammarFile}
use Rattle.files_parse.specs.NodeNames.{node_name}

-- the name of a node in JSON
abbrev pub name_of_node : GrammarFile → (tokens : List ℕ) → Node → List ℕ
name_of_node file tokens node = json_name (node_name file tokens node)

-- texts are the names of nodes
abbrev pub HasNames : GrammarFile → (tokens : List ℕ) → List Node → List (String Global) → Type 0
HasNames file tokens nodes names = map (λ name. string_bytes name) names ≡ map (name_of_node file tokens) nodes
