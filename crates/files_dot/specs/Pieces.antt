-- White space, comments, and the ends of strings.
use Rattle.std.specs.Prelude.{◌≡◌, ◌==◌, ◌&&◌, ℕ, ◌+◌, ◌-◌, ◌<◌, Bool, true, false, not, List, [], ◌∷◌, ◌++◌, drop, take, slice_index, if◌then◌else◌}
use Rattle.std.specs.Char.{is_ascii_whitespace}
use Rattle.std.specs.List.{fold, prefix_len}

-- the first place where a fact holds
abbrev pub IsFirst : (ℕ → Type 0) → ℕ → Type 0
IsFirst P k = P k × ((j : ℕ) → j < k → ¬ P j)

-- how many bytes are on the line that a text begins with
abbrev pub line_length : List ℕ → ℕ
line_length text = prefix_len (λ byte. not (byte == 10)) text

-- `*/` stands at a place of a text
abbrev pub IsCommentEnd : List ℕ → ℕ → Type 0
IsCommentEnd text k = (slice_index text k ≡ 42) × (slice_index text (k + 1) ≡ 47)

-- a text begins with so many bytes of white space or of a comment: `//` or, as a line begins, `#` up
-- to the end of the line, or `/*` up to the first `*/`
pub data IsBlank (begins_line : Bool) (text : List ℕ) (count : ℕ) : Type 0 where
  white : is_ascii_whitespace (slice_index text 0) ≡ true → count ≡ 1 → IsBlank begins_line text count
  directive : begins_line ≡ true → slice_index text 0 ≡ 35 → count ≡ line_length text →
      IsBlank begins_line text count
  line_comment : slice_index text 0 ≡ 47 → slice_index text 1 ≡ 47 → count ≡ line_length text →
      IsBlank begins_line text count
  comment : (inside : ℕ) → slice_index text 0 ≡ 47 → slice_index text 1 ≡ 42 →
      IsFirst (IsCommentEnd (drop 2 text)) inside → count ≡ inside + 4 → IsBlank begins_line text count

-- how many brackets are open after a byte of an HTML string
abbrev pub open_after : ℕ → ℕ → ℕ
open_after open_ones byte = if byte == 60 then open_ones + 1 else (if byte == 62 then open_ones - 1 else open_ones)

-- after so many bytes no bracket is open, of one that was before them
abbrev pub IsHtmlEnd : List ℕ → ℕ → Type 0
IsHtmlEnd text k = fold open_after 1 (take k text) ≡ 0

-- whether a byte is a backslash that the next byte belongs to, by whether it belongs to one itself
abbrev pub escapes : Bool → ℕ → Bool
escapes is_escaped byte = not is_escaped && byte == 92

-- what a byte between quotes stands for: `\"` for a quote, a backslash before a line feed for
-- nothing, all else for itself
abbrev pub stands_for : (is_escaped : Bool) → ℕ → List ℕ
stands_for true byte = if byte == 10 then [] else (if byte == 34 then 34 ∷ [] else 92 ∷ byte ∷ [])
stands_for false byte = if byte == 92 then [] else byte ∷ []

-- what bytes between quotes stand for
abbrev pub text_of : (is_escaped : Bool) → List ℕ → List ℕ
text_of is_escaped [] = []
text_of is_escaped (byte ∷ others) = stands_for is_escaped byte ++ text_of (escapes is_escaped byte) others

-- a quote stands at a place of a text between quotes that belongs to no backslash
abbrev pub IsQuote : List ℕ → ℕ → Type 0
IsQuote text k = (slice_index text k ≡ 34) × (fold escapes false (take k text) ≡ false)

-- a text begins with a string in quotes, of so many bytes
pub record IsQuoted (text value : List ℕ) (count : ℕ) : Type 0 where
  pub begins : slice_index text 0 ≡ 34
  pub inside : ℕ
  pub ends : IsFirst (IsQuote (drop 1 text)) inside
  pub value_is : value ≡ text_of false (take inside (drop 1 text))
  pub count_is : count ≡ inside + 2
