-- The words of a condition, and where they stand.
use Rattle.std.specs.Prelude.{◌≡◌, ◌≢◌, ◌==◌, ◌&&◌, ℕ, ◌+◌, ◌≤◌, Bool, true, false, not, List, [], ◌∷◌, ◌++◌, length, All, codes, ⊤}
use Rattle.std.specs.Char.{is_ascii_control, is_ascii_whitespace}
use Rattle.std.specs.List.{list_any}
use Rattle.files_condition.specs.declared.condition.Operand.{Operand}
use Rattle.files_condition.specs.declared.condition.Relation.TheVariants.{Equal, Greater, GreaterOrEqual, Less, LessOrEqual, NotEqual}
use Rattle.files_condition.specs.declared.words.Mark.{Mark}
use Rattle.files_condition.specs.declared.words.Mark.TheVariants.{And, Close, Compares, Not, Open, Or}
use Rattle.files_condition.specs.declared.words.Word.{Word}
use Rattle.files_condition.specs.declared.words.Word.TheVariants.{Sign, Text}

-- a name or a value, the column where it begins, and whether it stands in quotes
pub record Term : Type 0 where
  pub text : List ℕ
  pub at : ℕ
  pub is_quoted : Bool

-- a word: a name or a value, or a mark and the column where it begins
pub data Token : Type 0 where
  text : Term → Token
  mark : Mark → ℕ → Token

-- a name or a value, whatever place of memory its text has
abbrev pub term_of : Operand → Term
term_of operand = record { text = operand.text.now; at = operand.at; is_quoted = operand.is_quoted }

-- a word, whatever place of memory its text has
abbrev pub token_of : Word → Token
token_of (Text operand) = text (term_of operand)
token_of (Sign sign at) = mark sign at

-- the column where a word begins
abbrev pub column_of : Token → ℕ
column_of (text term) = term.at
column_of (mark sign at) = at

-- how a mark is written
abbrev pub spelling : Mark → List ℕ
spelling And = codes "&"
spelling Or = codes "|"
spelling Not = codes "!"
spelling Open = codes "("
spelling Close = codes ")"
spelling (Compares Equal) = codes "="
spelling (Compares NotEqual) = codes "!="
spelling (Compares Less) = codes "<"
spelling (Compares LessOrEqual) = codes "<="
spelling (Compares Greater) = codes ">"
spelling (Compares GreaterOrEqual) = codes ">="

-- whether a byte stands in a word without quotes
abbrev pub is_plain : ℕ → Bool
is_plain byte = not (is_ascii_whitespace byte) && not (list_any (λ sign. sign == byte) (codes "&|!()=<>\""))

-- a text that is a word without quotes: it isn't empty, and has no control characters
abbrev pub IsWordText : List ℕ → Type 0
IsWordText word = (word ≢ []) × All (λ byte. (is_plain byte && not (is_ascii_control byte)) ≡ true) word

-- no byte of a word without quotes is next
abbrev pub EndsPlain : List ℕ → Type 0
EndsPlain [] = ⊤
EndsPlain (byte ∷ rest) = is_plain byte ≡ false

-- no `=` is next
abbrev pub NoEqual : List ℕ → Type 0
NoEqual [] = ⊤
NoEqual (byte ∷ rest) = byte ≢ 61

-- a mark ends before a rest: `!`, `<` and `>` are other marks if `=` follows
abbrev pub EndsMark : Mark → (rest : List ℕ) → Type 0
EndsMark Not rest = NoEqual rest
EndsMark (Compares Less) rest = NoEqual rest
EndsMark (Compares Greater) rest = NoEqual rest
EndsMark sign rest = ⊤

-- how a name or a value is written before a rest, in quotes or without
abbrev pub IsWritten : (is_quoted : Bool) → (name written rest : List ℕ) → Type 0
IsWritten true name written rest = (written ≡ 34 ∷ (name ++ 34 ∷ [])) × All (λ byte. byte ≢ 34) name
IsWritten false name written rest = (written ≡ name) × All (λ byte. is_plain byte ≡ true) name × EndsPlain rest

-- how a word is written at a column before a rest
abbrev pub IsSpelled : (column : ℕ) → Token → (written rest : List ℕ) → Type 0
IsSpelled column (text term) written rest = (term.at ≡ column) × IsWritten term.is_quoted term.text written rest
IsSpelled column (mark sign at) written rest = (at ≡ column) × (written ≡ spelling sign) × EndsMark sign rest

-- the words that a text at a column begins with, and the column and the text after them: what white
-- space leaves
pub data AreWords : (column : ℕ) → List ℕ → List Token → (after : ℕ) → (rest : List ℕ) → Type 0 where
  none : {c : ℕ} {rest : List ℕ} → AreWords c rest [] c rest
  white : {c after byte : ℕ} {others rest : List ℕ} {words : List Token} → is_ascii_whitespace byte ≡ true →
      AreWords (c + 1) others words after rest → AreWords c (byte ∷ others) words after rest
  word : {c after : ℕ} (first : ℕ) (others : List ℕ) {token : Token} {behind rest : List ℕ} {words : List Token} →
      IsSpelled c token (first ∷ others) behind →
      AreWords (c + length (first ∷ others)) behind words after rest →
      AreWords c ((first ∷ others) ++ behind) (token ∷ words) after rest

-- the words of a whole text, at most 1000
pub record AreWordsOf (whole : List ℕ) (words : List Token) : Type 0 where
  pub after : ℕ
  pub are_words : AreWords 1 whole words after []
  pub few : length words ≤ 1000
