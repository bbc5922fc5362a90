-- Why `parse` fails over a text of tokens.
use Rattle.std.specs.Prelude.{ℕ, List, Option, ⊤}
use Rattle.std.specs.Io.KnownBytes.{Keeps}
use Rattle.std.specs.String.{string_bytes}
use Rattle.vob_lr.specs.Tables.{TableView}
use Rattle.files_grammar.specs.GrammarFaults.{HasNoTable}
use Rattle.files_grammar.specs.declared.fault.GrammarFault.{GrammarFault}
use Rattle.files_grammar.specs.declared.fault.GrammarFault.TheVariants.{Endless, Rules, Text, Token as Unexpected}
use Rattle.files_grammar.specs.declared.file.GrammarFile.{GrammarFile}
use Rattle.files_text.specs.Words.{Token}
use Rattle.files_text.specs.declared.fault.Fault.TheVariants.{Line, Memory, Output}
use Rattle.files_parse.specs.ParseFaults.{IsEndless, IsNoTokens, IsUnfit}
use Rattle.files_parse.specs.Tokens.{AreWordsOf}
use Rattle.files_parse.specs.Parses.{HasTable, HasTokens}

-- a fault of the tokens of a text, by the table of a file's grammar
pub record IsInTokens (file : GrammarFile) (text : List ℕ) (Is : TableView → List Token → List ℕ → Type 0)
    : Type 0 where
  pub words : List Token
  pub tokens : List ℕ
  pub has_tokens : HasTokens file.names text words tokens
  pub table : TableView
  pub has_table : HasTable file table
  pub is : Is table words tokens

-- why a text has no derivation
abbrev pub IsUnparsed : GrammarFile → List ℕ → GrammarFault → Type 0
IsUnparsed file text (Text (Line line column expected)) =
    (words : List Token) × AreWordsOf text words × IsNoTokens file.names words (Line line column expected)
IsUnparsed file text (Rules error) = HasNoTable file.grammar (Rules error)
IsUnparsed file text (Unexpected line column name expected) =
    IsInTokens file text (λ table words tokens.
    IsUnfit table file.names words tokens line column (string_bytes name) (string_bytes expected))
IsUnparsed file text (Endless line column) =
    IsInTokens file text (λ table words tokens. IsEndless table words tokens line column)
IsUnparsed file text fault = ⊥

-- why nothing was written, unless the output failed
abbrev pub FailsBy : GrammarFile → (text : List ℕ) → GrammarFault → (old new : Option (List ℕ)) → Type 0
FailsBy file text (Text (Output error)) old new = ⊤
FailsBy file text (Text Memory) old new = Keeps old new
FailsBy file text fault old new = IsUnparsed file text fault × Keeps old new
