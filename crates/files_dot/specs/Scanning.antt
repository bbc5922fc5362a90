-- How a text is cut into tokens. No public clause cites this page.
use Rattle.std.specs.Prelude.{◌≡◌, ◌⊎◌, ℕ, ◌<◌, List, [], ◌∷◌, ◌++◌, drop, length, take, Option, None, Some}
use Rattle.files_text.specs.Faults.{IsLine}
use Rattle.files_text.specs.declared.fault.Fault.{Fault}
use Rattle.files_text.specs.declared.fault.Fault.TheVariants.{Memory}
use Rattle.files_dot.specs.Pieces.{IsQuoted}
use Rattle.files_dot.specs.Places.{behind}
use Rattle.files_dot.specs.Tokens.{AreBlanks, AreStrings, AreTokens, IsNoString, StopsAt, token_of, word_of}
use Rattle.files_dot.specs.declared.place.Place.{Place}
use Rattle.files_dot.specs.declared.token.Token.{Token}
use Rattle.files_dot.specs.declared.token.Word.{Word as Held}

-- a string in quotes was taken: its text is behind others, and what is left of the text
pub record TakesQuoted (from : Place) (text : List ℕ) (others all : List ℕ) (to : Place) (rest : List ℕ)
    : Type 0 where
  pub value : List ℕ
  pub count : ℕ
  pub is_quoted : IsQuoted text value count
  pub all_is : all ≡ others ++ value
  pub to_is : to ≡ behind from (take count text)
  pub rest_is : rest ≡ drop count text

-- no string in quotes was taken
abbrev pub IsNotQuoted : (from : Place) → (text : List ℕ) → Fault → Type 0
IsNotQuoted from text fault = (fault ≡ Memory) ⊎ ((expected : List ℕ) × IsNoString text expected
    × IsLine fault from.line from.column expected)

-- no token was taken
abbrev pub IsStopped : (from : Place) → (text : List ℕ) → Fault → Type 0
IsStopped from text fault = (fault ≡ Memory) ⊎ ((place : Place) × (expected : List ℕ)
    × StopsAt from text place expected × IsLine fault place.line place.column expected)

-- strings and the white space and comments behind them
pub record TakesStrings (from : Place) (text value : List ℕ) (to : Place) (rest : List ℕ) : Type 0 where
  pub at : Place
  pub behind_them : List ℕ
  pub are_strings : AreStrings from text value at behind_them
  pub are_blanks : AreBlanks at behind_them to rest

-- a word was taken
pub record TakesWord (from : Place) (text : List ℕ) (word : Held) (to : Place) (rest : List ℕ) : Type 0 where
  pub are_tokens : AreTokens from text (record { word = word_of word; place = from } ∷ []) to rest
  pub shorter : length rest < length text

-- what was found next, and what is left
abbrev pub IsNext : (from : Place) → (text : List ℕ) → Option Token → (to : Place) → (rest : List ℕ) → Type 0
IsNext from text None to rest = AreTokens from text [] to rest × (rest ≡ [])
IsNext from text (Some token) to rest = AreTokens from text (token_of token ∷ []) to rest
    × (length rest < length text)

-- no token was found behind white space and comments
abbrev pub IsStoppedBehind : (from : Place) → (text : List ℕ) → Fault → Type 0
IsStoppedBehind from text fault = (to : Place) × (rest : List ℕ) × AreBlanks from text to rest
    × IsStopped to rest fault
