-- Why a text has no derivation: a word that is no token, a token that doesn't fit, or a parser that never ends.
use Rattle.std.specs.Prelude.{◌≡◌, ℕ, ◌+◌, List, [], ◌∷◌, ◌++◌, Option, None, Some, codes, length, min, slice_get, take, ⊤}
use Rattle.std.below.core.specs.declared.int.usize.TheConstants.{MAX}
use Rattle.std.specs.Str.Lossy.{utf8_lossy}
use Rattle.vob_lr.specs.Languages.{MoreThanSuffice}
use Rattle.vob_lr.specs.Stops.{IsUnexpected}
use Rattle.vob_lr.specs.Tables.{TableView}
use Rattle.files_grammar.specs.declared.file.SymbolNames.{SymbolNames}
use Rattle.files_text.specs.Words.{Token}
use Rattle.files_text.specs.declared.fault.Fault.{Fault}
use Rattle.files_text.specs.declared.fault.Fault.TheVariants.{Line, Memory}
use Rattle.files_grammar.specs.declared.fault.GrammarFault.{GrammarFault}
use Rattle.files_grammar.specs.declared.fault.GrammarFault.TheVariants.{Endless, Text, Token as Unexpected}
use Rattle.std.specs.String.{string_bytes}
use Rattle.files_parse.specs.Fitting.{ListsExpected, NeverEnds}
use Rattle.files_parse.specs.Tokens.{AreTokens, IsTerminal}

-- the first word that names no terminal begins at a line and a column
pub record IsUnknown (names : SymbolNames) (words : List Token) (line column : ℕ) : Type 0 where
  pub before : List Token
  pub word : Token
  pub after : List Token
  pub cut : words ≡ before ++ word ∷ after
  pub tokens : List ℕ
  pub known : AreTokens names before tokens
  pub unknown : (t : ℕ) → ¬ IsTerminal names word.text t
  pub line_is : word.line ≡ line
  pub column_is : word.column ≡ column

-- why words are no tokens, unless memory ran out
abbrev pub IsNoTokens : SymbolNames → List Token → Fault → Type 0
IsNoTokens names words Memory = ⊤
IsNoTokens names words (Line line column expected) =
    IsUnknown names words line column × (expected.now ≡ codes "a token of the grammar")
IsNoTokens names words fault = ⊥

-- the line and the column behind the last word, or those where a text begins if it has none
abbrev pub end_of : List Token → ℕ × ℕ
end_of [] = (1, 1)
end_of (word ∷ []) = (word.line, min (word.column + length word.text) MAX)
end_of (word ∷ other ∷ words) = end_of (other ∷ words)

-- where a word begins, or else the end
abbrev pub place_or : Option Token → (end : ℕ × ℕ) → ℕ × ℕ
place_or None end = end
place_or (Some word) end = (word.line, word.column)

-- where the token with an index begins, or else the end
abbrev pub place_of : List Token → ℕ → ℕ × ℕ
place_of words at = place_or (slice_get words at) (end_of words)

-- what a word, or else the end, is called
abbrev pub called : Option Token → List ℕ
called None = codes "end of input"
called (Some word) = utf8_lossy word.text

-- no action takes a token, or the end, that is called so and begins at a line and a column. What fits there is listed
pub record IsUnfit (table : TableView) (names : SymbolNames) (words : List Token) (tokens : List ℕ) (line column : ℕ)
    (name expected : List ℕ) : Type 0 where
  pub at : ℕ
  pub unexpected : IsUnexpected table tokens at
  pub place : place_of words at ≡ (line, column)
  pub is_called : called (slice_get words at) ≡ name
  pub lists : ListsExpected table names (take at tokens) expected

-- a parser makes more reductions than suffice for so many tokens: before one that begins at a line and a column, or
-- before the end, it never ends
pub record IsEndless (table : TableView) (words : List Token) (tokens : List ℕ) (line column : ℕ) : Type 0 where
  pub more : MoreThanSuffice table tokens
  pub at : ℕ
  pub never_ends : NeverEnds table tokens at
  pub place : place_of words at ≡ (line, column)

-- why a table's parser takes tokens for no sentence, unless memory ran out
abbrev pub IsRefused : TableView → SymbolNames → List Token → List ℕ → GrammarFault → Type 0
IsRefused table names words tokens (Text Memory) = ⊤
IsRefused table names words tokens (Unexpected line column name expected) =
    IsUnfit table names words tokens line column (string_bytes name) (string_bytes expected)
IsRefused table names words tokens (Endless line column) = IsEndless table words tokens line column
IsRefused table names words tokens fault = ⊥
