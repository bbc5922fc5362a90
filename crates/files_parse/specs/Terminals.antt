-- How the terminal that a word names is found. No public clause cites this page.
use Rattle.std.specs.Prelude.{◌≡◌, ℕ, ◌+◌, Bool, false, List, [], ◌∷◌, Option, None, Some, cond, nat_eq}
use Rattle.std.specs.Cmp.Lexicographic.{pointwise}
use Rattle.std.specs.HashMap.{HashMap, get}
use Rattle.std.specs.Borrow.{Bor}
use Rattle.vob_flow.specs.Lists.{lists_of}
use Rattle.files_grammar.specs.declared.file.SymbolNames.{SymbolNames}
use Rattle.files_parse.specs.Tokens.{quoted}

-- the number of the last name that passes a test, if one does. The first has the number k
abbrev pub last_number : (List ℕ → Bool) → List (List ℕ) → (k : ℕ) → (found : Option ℕ) → Option ℕ
last_number test [] k found = found
last_number test (name ∷ names) k found = last_number test names (k + 1) (cond (test name) (Some k) found)

-- whether a name is a word
abbrev pub is_word : List ℕ → List ℕ → Bool
is_word word name = pointwise nat_eq name word

-- whether a name is a word of one character between quotes
abbrev pub is_quoted : List ℕ → List ℕ → Bool
is_quoted (character ∷ []) name = pointwise nat_eq name (quoted character)
is_quoted word name = false

-- the terminal that a word names
abbrev pub terminal_of : SymbolNames → List ℕ → Option ℕ
terminal_of names word =
    last_number (is_word word) (lists_of names.terminals.items) 0
    (last_number (is_word word) (lists_of names.identifiers.items) 0
    (last_number (is_quoted word) (lists_of names.identifiers.items) 0 None))

-- the key of a map is a word
abbrev pub is_key : Bor (List ℕ) → Bor (List ℕ) → Bool
is_key word key = pointwise nat_eq word.now key.now

-- the number that a map has at a word
abbrev pub number_at : {S : Type 0} → HashMap (Bor (List ℕ)) ℕ S → Bor (List ℕ) → Option ℕ
number_at map word = get is_key map word

-- a map has the terminal of each word
abbrev pub HasTerminals : {S : Type 0} → SymbolNames → HashMap (Bor (List ℕ)) ℕ S → Type 0
HasTerminals names map = (word : Bor (List ℕ)) → number_at map word ≡ terminal_of names word.now
