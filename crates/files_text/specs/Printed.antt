-- Texts that are printed: names, and lines of them.
use Rattle.std.specs.Prelude.{ℕ, Bool, true, List, [], ◌∷◌, ◌++◌, Option, slice_index_or}
use Rattle.std.specs.Io.KnownBytes.{Appends}
use Rattle.std.specs.declared.ops.Bound.TheVariants.{Unbounded}
use Rattle.vob_walk.specs.Matches.{matches}

-- known bytes grew by a text of which P holds
abbrev pub Writes : Option (List ℕ) → Option (List ℕ) → (List ℕ → Type 0) → Type 0
Writes old new P = (text : List ℕ) × Appends old new text × P text

-- the byte that ends a line
abbrev pub line_end : List ℕ
line_end = 10 ∷ []

-- the name with a number, and nothing if there is none
abbrev pub name_at : List (List ℕ) → ℕ → List ℕ
name_at names number = slice_index_or names number []

-- the line of a name
abbrev pub name_line : List (List ℕ) → ℕ → List ℕ
name_line names number = name_at names number ++ line_end

-- the places that a set has, in rising order
abbrev pub members : List Bool → List ℕ
members set = matches set true Unbounded Unbounded
