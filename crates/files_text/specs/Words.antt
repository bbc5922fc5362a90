-- The words of a text, and where they stand.
use Rattle.std.specs.Prelude.{◌≡◌, ◌≢◌, ◌⊎◌, ◌==◌, ◌&&◌, ℕ, ◌+◌, Bool, true, false, not, List, [], ◌∷◌, ◌++◌, length, All, ⊤}
use Rattle.std.specs.Char.{is_ascii_whitespace}
use Rattle.std.specs.List.{list_any}
use Rattle.files_text.specs.declared.words.Word.{Word}

-- whether a byte is a mark, which is a word of its own
abbrev pub is_mark : (marks : List ℕ) → ℕ → Bool
is_mark marks byte = list_any (λ mark. mark == byte) marks

-- whether a byte is a letter of names
abbrev pub is_letter : (marks : List ℕ) → ℕ → Bool
is_letter marks byte = not (is_ascii_whitespace byte) && not (is_mark marks byte)

-- no letter is next
abbrev pub EndsName : (marks text : List ℕ) → Type 0
EndsName marks [] = ⊤
EndsName marks (byte ∷ text) = is_letter marks byte ≡ false

-- the line ends next
abbrev pub EndsLine : List ℕ → Type 0
EndsLine [] = ⊤
EndsLine (byte ∷ text) = byte ≡ 10

-- a mark, or all letters up to the next byte that is none
abbrev pub IsMarkOrName : (marks word after : List ℕ) → Type 0
IsMarkOrName marks [] after = ⊥
IsMarkOrName marks (first ∷ others) after = ((is_mark marks first ≡ true) × (others ≡ []))
    ⊎ (All (λ byte. is_letter marks byte ≡ true) (first ∷ others) × EndsName marks after)

-- neither white space nor a comment
abbrev pub BeginsWord : List ℕ → Type 0
BeginsWord [] = ⊥
BeginsWord (first ∷ others) = (first ≢ 35) × (is_ascii_whitespace first ≡ false)

-- a word, and the line and the column where it begins
pub record Token : Type 0 where
  pub text : List ℕ
  pub line : ℕ
  pub column : ℕ

abbrev pub token_of : Word → Token
token_of word = record { text = word.text.now; line = word.line; column = word.column }

-- the words of a text that begins at a line and a column, counted from 1: what white space, and
-- comments from `#` to the ends of their lines, leave
pub data AreWords (marks : List ℕ) : (line column : ℕ) → List ℕ → List Token → Type 0 where
  none : {l c : ℕ} → AreWords marks l c [] []
  white : {l c byte : ℕ} {text : List ℕ} {words : List Token} → is_ascii_whitespace byte ≡ true →
      byte ≢ 10 → AreWords marks l (c + 1) text words → AreWords marks l c (byte ∷ text) words
  line_feed : {l c : ℕ} {text : List ℕ} {words : List Token} →
      AreWords marks (l + 1) 1 text words → AreWords marks l c (10 ∷ text) words
  comment : {l c : ℕ} (note : List ℕ) {text : List ℕ} {words : List Token} → All (λ byte. byte ≢ 10) note →
      EndsLine text → AreWords marks l (c + length (35 ∷ note)) text words →
      AreWords marks l c ((35 ∷ note) ++ text) words
  word : {l c : ℕ} (first : ℕ) (others : List ℕ) {text : List ℕ} {words : List Token} →
      BeginsWord (first ∷ others) → IsMarkOrName marks (first ∷ others) text →
      AreWords marks l (c + length (first ∷ others)) text words →
      AreWords marks l c ((first ∷ others) ++ text)
      (record { text = first ∷ others; line = l; column = c } ∷ words)

-- a rest of a text, and the line and the column where it begins
pub record Rest : Type 0 where
  pub text : List ℕ
  pub marks : List ℕ
  pub line : ℕ
  pub column : ℕ

-- the words that are left
abbrev pub AreLeft : Rest → List Token → Type 0
AreLeft rest words = AreWords rest.marks rest.line rest.column rest.text words
