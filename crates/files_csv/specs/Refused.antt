-- The first byte of a text that RFC 4180 refuses.
use Rattle.std.specs.Prelude.{◌≡◌, ◌≢◌, ◌⊎◌, ◌==◌, ◌+◌, ◌++◌, ◌∷◌, [], ℕ, All, List, codes, count_by, length, min, not, take}
use Rattle.std.specs.List.{suffix_len}
use Rattle.std.below.core.specs.declared.int.usize.TheConstants.{MAX}
use Rattle.files_csv.specs.Rows.{AreCells, IsBody, IsCell, IsPlain, opened, quoted}

-- a byte can't follow the beginning of a cell, where something was expected: a quote in a cell without quotes, more
-- after a closing quote, or no line feed after a carriage return
abbrev pub CantFollow : (cell : List ℕ) → (byte : ℕ) → (expected : List ℕ) → Type 0
CantFollow cell byte expected =
    (All IsPlain cell × (cell ≢ []) × (byte ≡ 34) × (expected ≡ codes "no `\"` in a cell without quotes"))
    ⊎ ((((content : List ℕ) × (cell ≡ quoted content)) × IsPlain byte
    × (expected ≡ codes "a comma or the end of the line after a closing `\"`"))
    ⊎ (((begun : List ℕ) × IsCell begun × (cell ≡ begun ++ 13 ∷ [])) × (byte ≢ 10)
    × (expected ≡ codes "a line feed after a carriage return")))

-- a cell can't end the text: its quote is to be closed, or a line feed is to follow. The place is that of the quote, or
-- the text's end
abbrev pub CantEnd : (cell : List ℕ) → (place : ℕ) → (expected : List ℕ) → Type 0
CantEnd cell place expected =
    (((content : List ℕ) × (cell ≡ opened content)) × (place ≡ 0) × (expected ≡ codes "a closing `\"`"))
    ⊎ (((begun : List ℕ) × IsCell begun × (cell ≡ begun ++ 13 ∷ [])) × (place ≡ length cell)
    × (expected ≡ codes "a line feed after a carriage return"))

-- of the bytes after a cell begins, the first that is refused, and where
abbrev pub RefusesCell : (cell rest : List ℕ) → (place : ℕ) → (expected : List ℕ) → Type 0
RefusesCell cell [] place expected = CantEnd cell place expected
RefusesCell cell (byte ∷ rest) place expected = CantFollow cell byte expected × (place ≡ length cell)

-- the line of what comes after some bytes, and its column, counted from 1. A column is a byte
abbrev pub line_after : List ℕ → ℕ
line_after before = min (count_by (λ byte. byte == 10) before + 1) MAX

abbrev pub column_after : List ℕ → ℕ
column_after before = suffix_len (λ byte. not (byte == 10)) before + 1

-- the line and the column of the first byte of a text that is refused, and what was expected there
pub record IsRefused (text : List ℕ) (line column : ℕ) (expected : List ℕ) : Type 0 where
  pub cells : List ℕ
  pub cell : List ℕ
  pub rest : List ℕ
  pub place : ℕ
  pub body : IsBody text ((cells ++ cell) ++ rest)
  pub each : AreCells cells
  pub refuses : RefusesCell cell rest place expected
  pub line_is : line ≡ line_after (cells ++ take place cell)
  pub column_is : column ≡ column_after (cells ++ take place cell)
