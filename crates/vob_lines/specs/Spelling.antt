-- How numbers, bits, bytes, ranges and the ends of pulls are written as a word.
use Rattle.std.specs.Prelude.{◌≡◌, ℕ, ◌^◌, ◌<◌, Bool, List, [], ◌∷◌, ◌++◌, map, codes}
use Rattle.std.specs.Str.Parse.{IsNumeral, digits_value}
use Rattle.std.specs.declared.ops.Bound.{Bound}
use Rattle.std.specs.declared.ops.Bound.TheVariants.{Included, Excluded, Unbounded}
pub use Rattle.vob_block.specs.Digits.{digit}
use Rattle.vob_walk.specs.declared.walk.End.{End}
use Rattle.vob_walk.specs.declared.walk.End.TheVariants.{Front, Back}

-- a numeral: one decimal digit or more, for a number below 2^64
-- Example: 007 for 7
abbrev pub Writes : List ℕ → ℕ → Type 0
Writes word n = IsNumeral 10 word × (digits_value 10 word ≡ n) × (n < 2 ^ 64)

-- the letter of an end
abbrev pub initial : End → ℕ
initial Front = 70
initial Back = 66

-- one character for each, or a dash for none
abbrev pub letters : {X : Type 0} → (X → ℕ) → List X → List ℕ
letters letter [] = codes "-"
letters letter (x ∷ xs) = map letter (x ∷ xs)

abbrev pub digits : List Bool → List ℕ
digits values = letters digit values

-- two hexadecimal digits, of either case, that write a byte
abbrev pub IsPair : ℕ → ℕ → ℕ → Type 0
IsPair high low byte =
    IsNumeral 16 (high ∷ low ∷ []) × (digits_value 16 (high ∷ low ∷ []) ≡ byte)

-- two for each byte, and nothing else
abbrev pub ArePairs : List ℕ → List ℕ → Type 0
ArePairs word [] = word ≡ []
ArePairs word (byte ∷ bytes) = (high low : ℕ) × (rest : List ℕ)
    × (word ≡ high ∷ low ∷ rest) × IsPair high low byte × ArePairs rest bytes

-- the same, or a dash for none
abbrev pub WritesBytes : List ℕ → List ℕ → Type 0
WritesBytes word [] = word ≡ codes "-"
WritesBytes word (byte ∷ bytes) = ArePairs word (byte ∷ bytes)

-- the text of a start: a numeral if it is included, one after `>` if it is excluded
abbrev pub IsStart : List ℕ → Bound ℕ → Type 0
IsStart text Unbounded = text ≡ []
IsStart text (Included n) = Writes text n
IsStart text (Excluded n) = (numeral : List ℕ) × (text ≡ codes ">" ++ numeral) × Writes numeral n

-- the text of an end: a numeral if it is excluded, one after `=` if it is included
abbrev pub IsEnd : List ℕ → Bound ℕ → Type 0
IsEnd text Unbounded = text ≡ []
IsEnd text (Excluded n) = Writes text n
IsEnd text (Included n) = (numeral : List ℕ) × (text ≡ codes "=" ++ numeral) × Writes numeral n

-- a start, two dots, an end
pub record IsRange (word : List ℕ) (start end : Bound ℕ) : Type 0 where
  pub front : List ℕ
  pub back : List ℕ
  pub cut : word ≡ front ++ (codes ".." ++ back)
  pub begins : IsStart front start
  pub ends : IsEnd back end
