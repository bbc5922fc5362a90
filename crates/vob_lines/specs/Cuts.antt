-- How the input is cut into lines, and a line into words.
use Rattle.std.specs.Prelude.{ℕ, Bool, ◌==◌, List, length, filter, nat_lt}
use Rattle.std.specs.List.{slice_split}
use Rattle.std.specs.Str.Lines.{lines}

-- the lines of a text, cut at each line feed; one carriage return before a line feed belongs to no
-- line, and what stands after the last line feed is a line unless it is empty
unfoldable pub lines_of : List ℕ → List (List ℕ)
lines_of text = lines text

-- whether a byte ends a line
abbrev pub is_line_feed : ℕ → Bool
is_line_feed byte = byte == 10

-- whether a byte stands between words
abbrev pub is_space : ℕ → Bool
is_space byte = byte == 32

-- the words of a line: what stands between its spaces, and isn't empty
unfoldable pub words_of : List ℕ → List (List ℕ)
words_of line = filter (λ part. nat_lt 0 (length part)) (slice_split is_space line)
