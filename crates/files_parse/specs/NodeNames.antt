-- What the nodes of a tree are called.
use Rattle.std.specs.Prelude.{ℕ, List, [], Option, None, Some, slice_get}
use Rattle.vob_lr.specs.declared.grammar.Rule.{Rule}
use Rattle.vob_lr.specs.declared.tree.Node.{Node}
use Rattle.files_grammar.specs.Rules.{nonterminal_name, terminal_name}
use Rattle.files_grammar.specs.declared.file.GrammarFile.{GrammarFile}
use Rattle.files_grammar.specs.declared.file.SymbolNames.{SymbolNames}

-- the name of a rule's left side
abbrev pub left_name : SymbolNames → Option Rule → List ℕ
left_name names None = []
left_name names (Some rule) = nonterminal_name names rule.left

-- the name of the left side of the rule with a number
abbrev pub rule_name : GrammarFile → ℕ → List ℕ
rule_name file r = left_name file.names (slice_get file.grammar.rules.items r)

-- the name of a token
abbrev pub token_name : SymbolNames → Option ℕ → List ℕ
token_name names None = []
token_name names (Some t) = terminal_name names t

-- the name of a rule, or else of the token with an index
abbrev pub name_by : GrammarFile → (tokens : List ℕ) → (at : ℕ) → Option ℕ → List ℕ
name_by file tokens at (Some r) = rule_name file r
name_by file tokens at None = token_name file.names (slice_get tokens at)

-- the name of a node
abbrev pub node_name : GrammarFile → (tokens : List ℕ) → Node → List ℕ
node_name file tokens node = name_by file tokens node.from node.rule
