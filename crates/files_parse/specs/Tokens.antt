-- Which tokens of a grammar the words of a text are.
use Rattle.std.specs.Prelude.{◌≡◌, ◌≢◌, ℕ, ◌<◌, List, [], ◌∷◌, Some, slice_get, Contains, ⊤}
use Rattle.vob_flow.specs.Lists.{lists_of}
use Rattle.files_grammar.specs.declared.file.SymbolNames.{SymbolNames}
use Rattle.files_text.specs.Words.{AreWords, Token}

-- the last of some names that is a word has this number
pub record IsLast (names : List (List ℕ)) (word : List ℕ) (number : ℕ) : Type 0 where
  pub at : slice_get names number ≡ Some word
  pub none_later : (later : ℕ) → number < later → slice_get names later ≢ Some word

-- a character between single quotes
abbrev pub quoted : ℕ → List ℕ
quoted character = 39 ∷ character ∷ 39 ∷ []

-- the terminal that a word names: by its name, or else by its identifier, or else a word of one
-- character by that between quotes
pub data IsTerminal (names : SymbolNames) : List ℕ → ℕ → Type 0 where
  by_name : {word : List ℕ} {t : ℕ} → IsLast (lists_of names.terminals.items) word t → IsTerminal names word t
  by_identifier : {word : List ℕ} {t : ℕ} → ¬ Contains (lists_of names.terminals.items) word →
      IsLast (lists_of names.identifiers.items) word t → IsTerminal names word t
  by_character : {character t : ℕ} → ¬ Contains (lists_of names.terminals.items) (character ∷ []) →
      ¬ Contains (lists_of names.identifiers.items) (character ∷ []) →
      IsLast (lists_of names.identifiers.items) (quoted character) t → IsTerminal names (character ∷ []) t

-- each word names a token
abbrev pub AreTokens : SymbolNames → List Token → List ℕ → Type 0
AreTokens names [] [] = ⊤
AreTokens names (word ∷ words) (token ∷ tokens) = IsTerminal names word.text token × AreTokens names words tokens
AreTokens names words tokens = ⊥

-- the words of a text of tokens
abbrev pub AreWordsOf : List ℕ → List Token → Type 0
AreWordsOf text words = AreWords [] 1 1 text words
