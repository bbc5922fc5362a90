-- Texts of CSV, as RFC 4180 has them.
use Rattle.std.specs.Prelude.{◌≡◌, ◌≢◌, ◌⊎◌, ◌==◌, ◌++◌, ◌∷◌, [], ℕ, All, List, if◌then◌else◌, flat_map}

-- a byte of a cell without quotes: no quote, no comma, and no byte of a row's end
abbrev pub IsPlain : ℕ → Type 0
IsPlain byte = (byte ≢ 34) × (byte ≢ 44) × (byte ≢ 13) × (byte ≢ 10)

-- a byte in quotes: a quote is doubled
abbrev pub in_quotes : ℕ → List ℕ
in_quotes byte = if byte == 34 then 34 ∷ 34 ∷ [] else byte ∷ []

-- a quote, and then a text
abbrev pub opened : List ℕ → List ℕ
opened content = 34 ∷ flat_map in_quotes content

-- with the closing quote
abbrev pub quoted : List ℕ → List ℕ
quoted content = opened content ++ 34 ∷ []

-- a cell: a text without quotes, or one in quotes
abbrev pub IsCell : List ℕ → Type 0
IsCell cell = All IsPlain cell ⊎ ((content : List ℕ) × (cell ≡ quoted content))

-- the end of a row: a line feed, alone or after a carriage return
abbrev pub IsRowEnd : List ℕ → Type 0
IsRowEnd end = (end ≡ 10 ∷ []) ⊎ (end ≡ 13 ∷ 10 ∷ [])

-- cells, each with a comma or the end of a row after it
pub data AreCells : List ℕ → Type 0 where
  none : AreCells []
  comma : (cells cell : List ℕ) → AreCells cells → IsCell cell → AreCells (cells ++ (cell ++ 44 ∷ []))
  row : (cells cell end : List ℕ) → AreCells cells → IsCell cell → IsRowEnd end →
      AreCells (cells ++ (cell ++ end))

-- the mark of UTF-8
abbrev pub mark : List ℕ
mark = 239 ∷ 187 ∷ 191 ∷ []

-- a text, without the mark with which it may begin
abbrev pub IsBody : (text body : List ℕ) → Type 0
IsBody text body = (text ≡ mark ++ body) ⊎ ((text ≡ body) × ((rest : List ℕ) → text ≢ mark ++ rest))

-- a text of CSV: cells, each with what ends it, and a last one, which may be empty
pub record IsCsv (text : List ℕ) : Type 0 where
  pub cells : List ℕ
  pub last : List ℕ
  pub body : IsBody text (cells ++ last)
  pub each : AreCells cells
  pub end : IsCell last
