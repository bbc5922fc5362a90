-- The tree of a parse as text: a line for each node, and what is below it further in.
use Rattle.std.specs.Prelude.{◌≡◌, ℕ, ◌+◌, List, [], ◌++◌, codes, cond, length, min, nat_lt, slice_get}
use Rattle.std.specs.Fmt.{decimal}
use Rattle.std.specs.List.{repeat}
use Rattle.vob_lr.specs.Trees.{AreTreesOf, Trees, leaves}
use Rattle.vob_lr.specs.Trees.Trees.{none, leaf, node}
use Rattle.files_grammar.specs.Rules.{terminal_name}
use Rattle.files_grammar.specs.declared.file.GrammarFile.{GrammarFile}
use Rattle.files_text.specs.Printed.{line_end}
use Rattle.files_text.specs.Words.{Token}
use Rattle.files_parse.specs.NodeNames.{rule_name}
use Rattle.files_parse.specs.ParseFaults.{place_or}

-- a level above 40, in front of its line
abbrev pub level_text : ℕ → List ℕ
level_text level = cond (nat_lt 40 level) (codes "(" ++ decimal level ++ codes ") ") []

-- two spaces for each level, up to 40 levels
abbrev pub indent : ℕ → List ℕ
indent level = level_text level ++ repeat (min level 40) (codes "  ")

-- the line and the column of a token
abbrev pub place_text : ℕ × ℕ → List ℕ
place_text place = codes " " ++ decimal place.0 ++ codes ":" ++ decimal place.1 ++ line_end

-- the line of a token: its terminal, and where its word begins
abbrev pub token_line : GrammarFile → List Token → (level at t : ℕ) → List ℕ
token_line file words level at t =
    indent level ++ terminal_name file.names t ++ place_text (place_or (slice_get words at) (0, 0))

-- the line of a rule: its left side, and its number
abbrev pub node_line : GrammarFile → (level r : ℕ) → List ℕ
node_line file level r = indent level ++ rule_name file r ++ (codes " rule " ++ decimal r ++ line_end)

-- the lines of trees side by side, the first token of which has an index
abbrev pub tree_text : GrammarFile → List Token → (level at : ℕ) → Trees → List ℕ
tree_text file words level at none = []
tree_text file words level at (leaf t more) =
    token_line file words level at t ++ tree_text file words level (at + 1) more
tree_text file words level at (node r below more) = node_line file level r
    ++ (tree_text file words (level + 1) at below ++ tree_text file words level (at + length (leaves below)) more)

-- the lines of the trees of a parse
pub record ListsTree (file : GrammarFile) (words : List Token) (tokens parsed text : List ℕ) : Type 0 where
  pub trees : Trees
  pub are_trees : AreTreesOf file.grammar.rules.items tokens parsed trees
  pub lines : text ≡ tree_text file words 0 0 trees
