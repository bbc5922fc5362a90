-- IDs that stand without quotes, keywords and marks.
use Rattle.std.specs.Prelude.{◌≡◌, ◌==◌, ◌&&◌, ◌||◌, ℕ, suc, Bool, true, false, List, [], ◌∷◌, drop, take, map, codes, nat_le, slice_index, Option, None, Some, if◌then◌else◌}
use Rattle.std.specs.Char.{is_ascii_alphabetic, is_ascii_digit, to_ascii_lowercase}
use Rattle.std.specs.List.{list_all, list_any, prefix_len}
use Rattle.files_dot.specs.declared.token.Mark.{Mark}
use Rattle.files_dot.specs.declared.token.Mark.TheVariants.{Arrow, CloseBrace, CloseBracket, Colon, Comma, Digraph, Edge, Equal, Graph, Line, Node, OpenBrace, OpenBracket, Semicolon, Strict, Subgraph}

-- whether a byte is a letter of names
abbrev pub is_letter : ℕ → Bool
is_letter byte = is_ascii_alphabetic byte || byte == 95 || nat_le 128 byte

-- whether a byte stands in names
abbrev pub is_in_name : ℕ → Bool
is_in_name byte = is_letter byte || is_ascii_digit byte

-- whether a text is a name: letters and digits, a letter first
abbrev pub is_name : List ℕ → Bool
is_name [] = false
is_name (first ∷ others) = is_letter first && list_all is_in_name others

-- whether a text is empty, or a point and digits
abbrev pub is_fraction : List ℕ → Bool
is_fraction [] = true
is_fraction (first ∷ others) = first == 46 && list_all is_ascii_digit others

-- whether a text is a numeral without its sign: digits, at least one, and perhaps a point
abbrev pub is_unsigned : List ℕ → Bool
is_unsigned text = list_any is_ascii_digit text && is_fraction (drop (prefix_len is_ascii_digit text) text)

-- whether a text is a numeral
abbrev pub is_numeral : List ℕ → Bool
is_numeral text = is_unsigned (if slice_index text 0 == 45 then drop 1 text else text)

-- whether a byte stands in names or numerals
abbrev pub is_bare : ℕ → Bool
is_bare byte = is_in_name byte || byte == 46

-- how many bytes of a name or a numeral a text begins with: perhaps a `-`, and then all that stand
-- in names or numerals
abbrev pub bare_length : List ℕ → ℕ
bare_length text = if slice_index text 0 == 45 then suc (prefix_len is_bare (drop 1 text)) else prefix_len is_bare text

-- the bytes of a name or a numeral that a text begins with
abbrev pub bare_in : List ℕ → List ℕ
bare_in text = take (bare_length text) text

-- a text is a keyword, without regard to case
abbrev pub IsKeyword : List ℕ → Mark → Type 0
IsKeyword text Strict = map to_ascii_lowercase text ≡ codes "strict"
IsKeyword text Graph = map to_ascii_lowercase text ≡ codes "graph"
IsKeyword text Digraph = map to_ascii_lowercase text ≡ codes "digraph"
IsKeyword text Node = map to_ascii_lowercase text ≡ codes "node"
IsKeyword text Edge = map to_ascii_lowercase text ≡ codes "edge"
IsKeyword text Subgraph = map to_ascii_lowercase text ≡ codes "subgraph"
IsKeyword text mark = ⊥

-- the mark that two bytes begin, if any
abbrev pub mark_of : ℕ → ℕ → Option Mark
mark_of first second = if first == 123 then Some OpenBrace
    else (if first == 125 then Some CloseBrace
    else (if first == 91 then Some OpenBracket
    else (if first == 93 then Some CloseBracket
    else (if first == 59 then Some Semicolon
    else (if first == 44 then Some Comma
    else (if first == 61 then Some Equal
    else (if first == 58 then Some Colon
    else (if first == 45 && second == 62 then Some Arrow
    else (if first == 45 && second == 45 then Some Line
    else None)))))))))

-- the mark that a text begins with, if any
abbrev pub mark_at : List ℕ → Option Mark
mark_at text = mark_of (slice_index text 0) (slice_index text 1)

-- how many bytes a mark has
abbrev pub mark_length : Mark → ℕ
mark_length Arrow = 2
mark_length Line = 2
mark_length mark = 1
