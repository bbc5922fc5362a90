-- The tokens of a text in DOT, and where it has none.
use Rattle.std.specs.Prelude.{◌≡◌, ◌≢◌, ◌==◌, ◌⊎◌, ℕ, ◌+◌, Bool, true, false, List, [], ◌∷◌, ◌++◌, drop, take, codes, None, Some, if◌then◌else◌, slice_index}
use Rattle.files_text.specs.Faults.{IsLine}
use Rattle.files_text.specs.declared.fault.Fault.{Fault}
use Rattle.files_text.specs.declared.fault.Fault.TheVariants.{Memory}
use Rattle.files_dot.specs.Ids.{IsKeyword, bare_in, bare_length, is_name, is_numeral, mark_at, mark_length}
use Rattle.files_dot.specs.Pieces.{IsBlank, IsFirst, IsHtmlEnd, IsQuote, IsQuoted}
use Rattle.files_dot.specs.Places.{behind, first_place}
use Rattle.files_dot.specs.declared.place.Place.{Place}
use Rattle.files_dot.specs.declared.token.Mark.{Mark}
use Rattle.files_dot.specs.declared.token.Token.{Token as Held}
use Rattle.files_dot.specs.declared.token.Word.{Word as HeldWord}
use Rattle.files_dot.specs.declared.token.Word.TheVariants.{Id, Sign}

-- an ID, by its text, or a keyword or a mark
pub data Word : Type 0 where
  id : List ℕ → Word
  sign : Mark → Word

-- a word, and the place where it begins
pub record Token : Type 0 where
  pub word : Word
  pub place : Place

-- a word, whatever place of memory its text has
abbrev pub word_of : HeldWord → Word
word_of (Id text) = id text.items
word_of (Sign mark) = sign mark

abbrev pub token_of : Held → Token
token_of held = record { word = word_of held.word; place = held.place }

-- a text begins with a word of so many bytes: a mark, a keyword, a name, a numeral, or an HTML
-- string, whose brackets are part of it
pub data IsWord (text : List ℕ) : Word → (count : ℕ) → Type 0 where
  a_mark : {mark : Mark} → mark_at text ≡ Some mark → IsWord text (sign mark) (mark_length mark)
  keyword : {mark : Mark} → mark_at text ≡ None → IsKeyword (bare_in text) mark →
      IsWord text (sign mark) (bare_length text)
  a_name : mark_at text ≡ None → ((mark : Mark) → ¬ IsKeyword (bare_in text) mark) →
      is_name (bare_in text) ≡ true → IsWord text (id (bare_in text)) (bare_length text)
  numeral : mark_at text ≡ None → is_numeral (bare_in text) ≡ true →
      IsWord text (id (bare_in text)) (bare_length text)
  html : (inside : ℕ) → slice_index text 0 ≡ 60 → IsFirst (IsHtmlEnd (drop 1 text)) inside →
      IsWord text (id (take (inside + 1) text)) (inside + 1)

-- white space and comments that a text at a place begins with, and the place and the text after them
pub data AreBlanks : Place → List ℕ → Place → List ℕ → Type 0 where
  no_blank : {p : Place} {text : List ℕ} → AreBlanks p text p text
  blank : {p q : Place} {text rest : List ℕ} (count : ℕ) → IsBlank (p.column == 1) text count →
      AreBlanks (behind p (take count text)) (drop count text) q rest → AreBlanks p text q rest

-- a `+`, with white space and comments on both sides
pub record IsPlus (from : Place) (text : List ℕ) (to : Place) (rest : List ℕ) : Type 0 where
  pub at : Place
  pub plus : List ℕ
  pub before : AreBlanks from text at plus
  pub is_plus : slice_index plus 0 ≡ 43
  pub after : AreBlanks (behind at (take 1 plus)) (drop 1 plus) to rest

-- strings in quotes that a text at a place begins with, joined by `+`: what they stand for, and the
-- place and the text after them
pub data AreStrings : Place → List ℕ → (value : List ℕ) → Place → List ℕ → Type 0 where
  one_string : {p : Place} {text value : List ℕ} (count : ℕ) → IsQuoted text value count →
      AreStrings p text value (behind p (take count text)) (drop count text)
  joined : {p q r : Place} {text first second rest others : List ℕ} (count : ℕ) →
      AreStrings p text first q rest → IsPlus q rest r others → IsQuoted others second count →
      AreStrings p text (first ++ second) (behind r (take count others)) (drop count others)

-- the tokens that a text at a place begins with, and the place and the text after them
pub data AreTokens : Place → List ℕ → List Token → Place → List ℕ → Type 0 where
  no_token : {p : Place} {text : List ℕ} → AreTokens p text [] p text
  after_blanks : {p q r : Place} {text rest last : List ℕ} {tokens : List Token} →
      AreBlanks p text q rest → AreTokens q rest tokens r last → AreTokens p text tokens r last
  a_word : {p q : Place} {text rest : List ℕ} {tokens : List Token} {word : Word} (count : ℕ) →
      IsWord text word count →
      AreTokens (behind p (take count text)) (drop count text) tokens q rest →
      AreTokens p text (record { word = word; place = p } ∷ tokens) q rest
  strings : {p q r : Place} {text rest last value : List ℕ} {tokens : List Token} →
      AreStrings p text value q rest → AreTokens q rest tokens r last →
      AreTokens p text (record { word = id value; place = p } ∷ tokens) r last

-- the tokens of a whole text, and the place where it ends
abbrev pub AreDotTokens : List ℕ → List Token → (end : Place) → Type 0
AreDotTokens text tokens end = AreTokens first_place text tokens end []

-- what is expected where a byte begins no token
abbrev pub expected_for : ℕ → List ℕ
expected_for byte = if byte == 60 then codes "an HTML string with its closing `>`"
    else (if byte == 47 then codes "a comment, with its closing `*/` if it begins with `/*`"
    else codes "a name, a numeral, a string or a mark")

-- no string in quotes begins a text, for what was expected
pub data IsNoString (text : List ℕ) : (expected : List ℕ) → Type 0 where
  no_quote : slice_index text 0 ≢ 34 → IsNoString text (codes "a string in double quotes, to be joined")
  unclosed : slice_index text 0 ≡ 34 → ((k : ℕ) → ¬ IsQuote (drop 1 text) k) →
      IsNoString text (codes "a string with its closing `\"`")

-- neither white space nor a comment begins a text
abbrev pub NoBlank : (begins_line : Bool) → List ℕ → Type 0
NoBlank begins_line text = (count : ℕ) → ¬ IsBlank begins_line text count

-- a text that isn't empty begins with neither white space nor a comment, and with no token, for what
-- was expected
pub data IsNoToken (begins_line : Bool) (text : List ℕ) : (expected : List ℕ) → Type 0 where
  unclosed_string : {expected : List ℕ} → slice_index text 0 ≡ 34 → IsNoString text expected →
      IsNoToken begins_line text expected
  unclosed_html : slice_index text 0 ≡ 60 → ((k : ℕ) → ¬ IsHtmlEnd (drop 1 text) k) →
      IsNoToken begins_line text (expected_for (slice_index text 0))
  no_word : text ≢ [] → NoBlank begins_line text → slice_index text 0 ≢ 34 →
      slice_index text 0 ≢ 60 → mark_at text ≡ None →
      ((mark : Mark) → ¬ IsKeyword (bare_in text) mark) → is_name (bare_in text) ≡ false →
      is_numeral (bare_in text) ≡ false →
      IsNoToken begins_line text (expected_for (slice_index text 0))

-- strings in quotes and a `+`, and at a place no string follows it
pub record IsNotJoined (from : Place) (text : List ℕ) (place : Place) (expected : List ℕ) : Type 0 where
  pub value : List ℕ
  pub to : Place
  pub others : List ℕ
  pub rest : List ℕ
  pub are_strings : AreStrings from text value to others
  pub plus : IsPlus to others place rest
  pub no_string : IsNoString rest expected

-- the text at a place begins with no token: something else was expected there, or behind a `+`
abbrev pub StopsAt : (from : Place) → List ℕ → (place : Place) → (expected : List ℕ) → Type 0
StopsAt from text place expected = ((place ≡ from) × IsNoToken (from.column == 1) text expected)
    ⊎ IsNotJoined from text place expected

-- the tokens of a whole text end at the first place where something else was expected
pub record IsFirstNoToken (whole : List ℕ) (place : Place) (expected : List ℕ) : Type 0 where
  pub tokens : List Token
  pub from : Place
  pub text : List ℕ
  pub are_tokens : AreTokens first_place whole tokens from text
  pub stops : StopsAt from text place expected

-- why a text wasn't cut into tokens
abbrev pub IsTokenFault : List ℕ → Fault → Type 0
IsTokenFault whole fault = (fault ≡ Memory) ⊎ ((place : Place) × (expected : List ℕ)
    × IsFirstNoToken whole place expected × IsLine fault place.line place.column expected)
