-- What the comparisons of a condition are in a row.
use Rattle.std.specs.Prelude.{◌≡◌, ◌⊎◌, ◌==◌, ℕ, Bool, true, false, not, List, [], ◌∷◌, length, Option, Some, None, unwrap_or}
use Rattle.std.specs.Cmp.Lexicographic.{slice_cmp}
use Rattle.std.specs.List.{AllZip}
use Rattle.std.specs.Ordering.{nat_cmp}
use Rattle.std.specs.declared.cmp.Ordering.{Ordering}
use Rattle.csv.specs.Records.{field_at}
use Rattle.files_condition.specs.Numbers.{Decimal, IsNumber, order_of}
use Rattle.files_condition.specs.Relations.{holds}
use Rattle.files_condition.specs.declared.condition.Relation.{Relation}
use Rattle.files_filter.specs.Reading.{Cells}
use Rattle.files_filter.specs.declared.comparing.Kind.{Kind}
use Rattle.files_filter.specs.declared.comparing.Kind.TheVariants.{Compared, Missing}
use Rattle.files_filter.specs.declared.comparing.Other.TheVariants.{Column, Number, Text}
use Rattle.files_filter.specs.declared.comparing.Test.{Test}

-- the cell of a row at a place: empty if there is none
abbrev pub cell_at : Cells → ℕ → List ℕ
cell_at cells place = unwrap_or (field_at cells place) []

-- a text is a number
abbrev pub IsNumeric : List ℕ → Type 0
IsNumeric text = (number : Decimal) × IsNumber text number

-- a text is a number, and this is its order with another
abbrev pub IsOrderWith : List ℕ → Decimal → Ordering → Type 0
IsOrderWith text other order = (number : Decimal) × IsNumber text number × (order ≡ order_of number other)

-- the order of two texts: that of numbers if both are, else that of their bytes
abbrev pub IsOrder : (first second : List ℕ) → Ordering → Type 0
IsOrder first second order =
    ((number : Decimal) × IsNumber second number × IsOrderWith first number order)
    ⊎ ((¬ (IsNumeric first × IsNumeric second)) × (order ≡ slice_cmp nat_cmp first second))

-- what a relation of two cells is: missing if the second is empty
abbrev pub AnswersBoth : Relation → (first second : List ℕ) → Option Bool → Type 0
AnswersBoth relation first [] answer = answer ≡ None
AnswersBoth relation first (byte ∷ bytes) answer =
    (order : Ordering) × IsOrder first (byte ∷ bytes) order × (answer ≡ Some (holds relation order))

-- what is asked of a cell of a row: a comparison is missing if the cell is empty
abbrev pub AnswersKind : Kind → List ℕ → Cells → Option Bool → Type 0
AnswersKind (Missing true) cell cells answer = answer ≡ Some (length cell == 0)
AnswersKind (Missing false) cell cells answer = answer ≡ Some (not (length cell == 0))
AnswersKind (Compared relation other) [] cells answer = answer ≡ None
AnswersKind (Compared relation (Text text)) (byte ∷ bytes) cells answer =
    answer ≡ Some (holds relation (slice_cmp nat_cmp (byte ∷ bytes) text.text.now))
AnswersKind (Compared relation (Number number)) (byte ∷ bytes) cells answer =
    (order : Ordering) × IsOrderWith (byte ∷ bytes) number order × (answer ≡ Some (holds relation order))
AnswersKind (Compared relation (Column place)) (byte ∷ bytes) cells answer =
    AnswersBoth relation (byte ∷ bytes) (cell_at cells place) answer

-- what a test is in a row
abbrev pub Answers : Test → Cells → Option Bool → Type 0
Answers test cells answer = AnswersKind test.kind (cell_at cells test.place) cells answer

-- what each of some tests is in a row
abbrev pub AreAnswers : List Test → Cells → List (Option Bool) → Type 0
AreAnswers tests cells answers = AllZip (λ test answer. Answers test cells answer) tests answers
