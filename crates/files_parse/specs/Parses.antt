-- What `parse` writes of a text of tokens.
use Rattle.std.specs.Prelude.{◌≡◌, ℕ, List, [], Option, None, Some, reverse, slice_get}
use Rattle.std.specs.List.{flat_map}
use Rattle.vob_lr.specs.Derivations.{IsParse}
use Rattle.vob_lr.specs.Stops.{AcceptsBy, IsSound}
use Rattle.vob_lr.specs.Tables.{TableView}
use Rattle.vob_lr.specs.declared.grammar.Rule.{Rule}
use Rattle.files_grammar.specs.GrammarFiles.{IsTableOf}
use Rattle.files_grammar.specs.Rules.{rule_line}
use Rattle.files_grammar.specs.declared.file.GrammarFile.{GrammarFile}
use Rattle.files_grammar.specs.declared.file.SymbolNames.{SymbolNames}
use Rattle.files_text.specs.Printed.{Writes}
use Rattle.files_text.specs.Words.{Token}
use Rattle.files_parse.specs.DotText.{ListsDot}
use Rattle.files_parse.specs.JsonText.{ListsJson}
use Rattle.files_parse.specs.TreeText.{ListsTree}
use Rattle.files_parse.specs.Tokens.{AreTokens, AreWordsOf}
use Rattle.files_parse.specs.declared.tree.TreeForm.{TreeForm}
use Rattle.files_parse.specs.declared.tree.TreeForm.TheVariants.{Dot, Json, Text as Lines}

-- the words of a text, and the tokens of a grammar that they are
pub record HasTokens (names : SymbolNames) (text : List ℕ) (words : List Token) (tokens : List ℕ) : Type 0 where
  pub are_words : AreWordsOf text words
  pub are_tokens : AreTokens names words tokens

-- the table of a file's grammar, with the states of the grammar
pub record HasTable (file : GrammarFile) (table : TableView) : Type 0 where
  pub is : IsTableOf file table
  pub sound : IsSound table

-- the rules by which a parser reduces tokens, by the table of a file's grammar. Read backwards, they are a rightmost
-- derivation
pub record IsParseOf (file : GrammarFile) (tokens parsed : List ℕ) : Type 0 where
  pub table : TableView
  pub has_table : HasTable file table
  pub accepts : AcceptsBy table tokens parsed
  pub is_parse : IsParse file.grammar.rules.items tokens parsed

-- the line of a rule, or nothing
abbrev pub line_of : SymbolNames → Option Rule → List ℕ
line_of names None = []
line_of names (Some rule) = rule_line names rule

-- the line of the rule with a number
abbrev pub numbered_line : GrammarFile → ℕ → List ℕ
numbered_line file r = line_of file.names (slice_get file.grammar.rules.items r)

-- a line for each rule of a derivation, from the start symbol on
abbrev pub derivation_text : GrammarFile → (parsed : List ℕ) → List ℕ
derivation_text file parsed = flat_map (numbered_line file) (reverse parsed)

-- what is written of the tree of a parse in a form
abbrev pub ListsForm : GrammarFile → List Token → (tokens parsed : List ℕ) → TreeForm → List ℕ → Type 0
ListsForm file words tokens parsed Lines text = ListsTree file words tokens parsed text
ListsForm file words tokens parsed Dot text = ListsDot file tokens parsed text
ListsForm file words tokens parsed Json text = ListsJson file words tokens parsed text

-- what is written of a parse, without a form or in one
abbrev pub ListsParse : GrammarFile → List Token → (tokens parsed : List ℕ) → Option TreeForm → List ℕ → Type 0
ListsParse file words tokens parsed None text = text ≡ derivation_text file parsed
ListsParse file words tokens parsed (Some form) text = ListsForm file words tokens parsed form text

-- known bytes grew by the parse of the tokens of a text
pub record WritesParse (file : GrammarFile) (text : List ℕ) (form : Option TreeForm) (old new : Option (List ℕ))
    : Type 0 where
  pub words : List Token
  pub tokens : List ℕ
  pub has_tokens : HasTokens file.names text words tokens
  pub parsed : List ℕ
  pub is_parse : IsParseOf file tokens parsed
  pub written : Writes old new (ListsParse file words tokens parsed form)
