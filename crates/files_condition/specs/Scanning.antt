-- How a text is cut into words. No public clause cites this page.
use Rattle.std.specs.Prelude.{◌≡◌, ◌≢◌, ◌==◌, ℕ, ◌+◌, ◌<◌, Bool, true, false, not, List, [], ◌∷◌, length, All, Option, None, Some, codes, if◌then◌else◌, ⊤}
use Rattle.std.specs.Char.{is_ascii_whitespace}
use Rattle.files_condition.specs.declared.condition.Relation.TheVariants.{Equal, Greater, GreaterOrEqual, Less, LessOrEqual, NotEqual}
use Rattle.files_condition.specs.declared.fault.ConditionFault.{ConditionFault}
use Rattle.files_condition.specs.declared.fault.ConditionFault.TheVariants.{Memory, Word as Fault}
use Rattle.files_condition.specs.declared.words.Mark.{Mark}
use Rattle.files_condition.specs.declared.words.Word.{Word}
use Rattle.files_condition.specs.declared.words.Mark.TheVariants.{And, Close, Compares, Not, Open, Or}
use Rattle.files_condition.specs.Words.{AreWords, is_plain, token_of}

-- the mark that a byte begins, by whether `=` follows
abbrev pub mark_of : ℕ → Bool → Option Mark
mark_of first with_equal = if first == 38 then Some And
    else (if first == 124 then Some Or
    else (if first == 40 then Some Open
    else (if first == 41 then Some Close
    else (if first == 61 then Some (Compares Equal)
    else (if first == 33 then Some (if with_equal then Compares NotEqual else Not)
    else (if first == 60 then Some (Compares (if with_equal then LessOrEqual else Less))
    else (if first == 62 then Some (Compares (if with_equal then GreaterOrEqual else Greater))
    else None)))))))

-- whether a byte stands inside quotes
abbrev pub is_inside : ℕ → Bool
is_inside byte = not (byte == 34)

-- no white space is next
abbrev pub EndsWhite : List ℕ → Type 0
EndsWhite [] = ⊤
EndsWhite (byte ∷ rest) = is_ascii_whitespace byte ≡ false

-- whether `=` is next
abbrev pub has_equal : List ℕ → Bool
has_equal [] = false
has_equal (byte ∷ rest) = byte == 61

-- what was found next in a text at a column, and what is left behind it
abbrev pub IsNext : (column : ℕ) → List ℕ → Option Word → (after : ℕ) → (rest : List ℕ) → Type 0
IsNext column whole None after rest = AreWords column whole [] after rest × (rest ≡ [])
IsNext column whole (Some word) after rest =
    AreWords column whole (token_of word ∷ []) after rest × (length rest < length whole)

-- a quote is open at the end of a text at a column, after white space
abbrev pub IsUnclosedHere : (column : ℕ) → List ℕ → ConditionFault → Type 0
IsUnclosedHere column whole Memory = ⊥
IsUnclosedHere column whole (Fault place expected) = (at : ℕ) × (inside : List ℕ)
    × AreWords column whole [] at (34 ∷ inside) × All (λ byte. byte ≢ 34) inside
    × (place ≡ column + length whole) × (expected.now ≡ codes "a closing `\"`")

-- a word without quotes is next
abbrev pub BeginsPlain : List ℕ → Type 0
BeginsPlain [] = ⊥
BeginsPlain (first ∷ rest) = is_plain first ≡ true

-- a mark is next
abbrev pub BeginsMark : Mark → List ℕ → Type 0
BeginsMark sign [] = ⊥
BeginsMark sign (first ∷ rest) = mark_of first (has_equal rest) ≡ Some sign
