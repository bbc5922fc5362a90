-- What a byte of a text of CSV stands in.
use Rattle.std.specs.Prelude.{◌≡◌, ◌≢◌, ◌⊎◌, ◌+◌, ◌<◌, ◌++◌, ◌∷◌, [], ℕ, All, List, length, take, ⊤}
use Rattle.files_csv.specs.Refused.{CantFollow}
use Rattle.files_csv.specs.Rows.{AreCells, IsCell, IsPlain, IsRowEnd, mark, opened, quoted}
use Rattle.files_csv.specs.declared.quotes.Part.{Part}
use Rattle.files_csv.specs.declared.quotes.Part.TheVariants.{End, Mark, Plain, Quote, Quoted, Return, Start}

-- the next byte of a cell stands in this, after those that it begins with
abbrev pub Begins : Part → (cell : List ℕ) → Type 0
Begins Start cell = cell ≡ []
Begins Plain cell = All IsPlain cell × (cell ≢ [])
Begins Quoted cell = (content : List ℕ) × (cell ≡ opened content)
Begins Quote cell = (content : List ℕ) × (cell ≡ quoted content)
Begins Return cell = (begun : List ℕ) × IsCell begun × (cell ≡ begun ++ 13 ∷ [])
Begins part cell = ⊥

-- one more byte is the cell's, or it ends the cell or its row
abbrev pub Goes : (cell : List ℕ) → (byte : ℕ) → Part → Type 0
Goes cell byte Start = IsCell cell × (byte ≡ 44)
Goes cell byte End = (begun end : List ℕ) × IsCell begun × IsRowEnd end × (cell ++ byte ∷ [] ≡ begun ++ end)
Goes cell byte next = Begins next (cell ++ byte ∷ [])

-- a text may end in this
abbrev pub MayEnd : Part → Type 0
MayEnd (Mark count) = ⊤
MayEnd Start = ⊤
MayEnd Plain = ⊤
MayEnd Quote = ⊤
MayEnd part = ⊥

-- the first bytes of a text, without the mark
abbrev pub AreBody : (seen body : List ℕ) → Type 0
AreBody seen body = (seen ≡ mark ++ body) ⊎ ((seen ≡ body) × ((more rest : List ℕ) → seen ++ more ≢ mark ++ rest))

-- the first bytes of a text end in a cell that begins at a place
pub record InCell (part : Part) (seen : List ℕ) (start : ℕ) : Type 0 where
  pub cells : List ℕ
  pub cell : List ℕ
  pub body : AreBody seen (cells ++ cell)
  pub each : AreCells cells
  pub begins : Begins part cell
  pub start_is : start + length cell ≡ length seen

-- so they do, or they are the first ones of the mark
abbrev pub Stands : Part → (seen : List ℕ) → (start : ℕ) → Type 0
Stands (Mark count) seen start = (count < 3) × (seen ≡ take count mark) × (start ≡ 0)
Stands part seen start = InCell part seen start

-- whole rows
pub record AreRows (seen : List ℕ) : Type 0 where
  pub cells : List ℕ
  pub last : List ℕ
  pub end : List ℕ
  pub body : AreBody seen (cells ++ (last ++ end))
  pub each : AreCells cells
  pub last_is : IsCell last
  pub end_is : IsRowEnd end

-- the same after one more byte, with which a cell may begin anew
abbrev pub StandsNext : Part → (seen : List ℕ) → (start : ℕ) → Type 0
StandsNext End seen start = Stands Start seen (length seen) × AreRows seen
StandsNext Start seen start = Stands Start seen (length seen)
StandsNext part seen start = Stands part seen start

-- a byte is refused after the first ones
pub record CantStand (seen : List ℕ) (byte : ℕ) (expected : List ℕ) : Type 0 where
  pub cells : List ℕ
  pub cell : List ℕ
  pub body : AreBody (seen ++ byte ∷ []) ((cells ++ cell) ++ byte ∷ [])
  pub each : AreCells cells
  pub cant : CantFollow cell byte expected
