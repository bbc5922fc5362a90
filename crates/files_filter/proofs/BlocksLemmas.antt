-- Blocks of rows, and their columns.
use Rattle.std.specs.Prelude.{All, Err, IfOk, Ok, Result, map, slice_index_or, slice_set}
use Rattle.std.proofs.Common.{◌≡◌, ◌∙◌, ◌<◌, ◌+◌, ℕ, Bool, List, [], ◌∷◌, ◌++◌, Option, None, append_assoc, ap, arith, get_or, inl, inr, length, refl, subst, sym, take, zero, suc}
use Rattle.std.proofs.lemmas.Bool.{cases_lt}
use Rattle.std.proofs.lemmas.List.{get_or-map, get_or-set_other, get_or-set_same, length-map, length-set, map-append, take_more}
use Rattle.std.proofs.lemmas.List.Elements.{All-map, All-push}
use Rattle.csv.specs.Records.{fields_of}
use Rattle.vob_filter.specs.Columns.{row_at, value_at}
use Rattle.files_filter.specs.Answers.{AreAnswers}
use Rattle.files_filter.specs.Blocks.{AnswerAll, HasAsked, answers_at}
use Rattle.files_filter.specs.FilterText.{Answered, answered, true_rows}
use Rattle.files_filter.specs.Reading.{Cells, Delimited}
use Rattle.files_filter.specs.Written.{cells_of}
use Rattle.files_filter.proofs.AnswersLemmas.{answers_count}
use Rattle.files_filter.proofs.FilterTextLemmas.{filtered}
use Rattle.files_text.specs.Printed.{members}
use Rattle.vob_filter.specs.Filter.{IsFilter}
use Rattle.vob_filter.specs.declared.filter.Expression.{Expression}
use Rattle.files_filter.specs.declared.block.Row.{Row}
use Rattle.files_filter.specs.declared.comparing.Test.{Test}
use Rattle.files_filter.specs.declared.questions.Questions.{Questions}
use Rattle.files_filter.specs.declared.table.Table.{Table}

-- one more row of a block
pub block_more : {R : Type 0} (remaining : R → Option (List ℕ)) (text : Delimited) (before : List Cells)
    (rows : List Row) (row : Row) (table : Table R) (questions : Questions) →
    HasAsked remaining text ((before ++ map (λ r. r.0) (map answered rows)) ++ fields_of row.cells ∷ []) table questions →
    HasAsked remaining text (before ++ map (λ r. r.0) (map answered (rows ++ row ∷ []))) table questions
block_more remaining text before rows row table questions read =
    rw (
      map-append answered rows (row ∷ []),
      map-append (λ (r : Answered). r.0) (map answered rows) (answered row ∷ []),
      ← append_assoc before (map (λ (r : Answered). r.0) (map answered rows)) (fields_of row.cells ∷ []),
    ) read

pub answers_more_rows : (tests : List Test) (rows : List Row) (row : Row) → AnswerAll tests (map answered rows) →
    AreAnswers tests (fields_of row.cells) row.answers.items → AnswerAll tests (map answered (rows ++ row ∷ []))
answers_more_rows tests rows row answers are =
    rw (map-append answered rows (row ∷ []))
    (All-push (λ (r : Answered). AreAnswers tests r.0 r.1) (map answered rows) (answered row) answers are)

-- each row of a block has as many answers as there are tests
pub answers_wide : (tests : List Test) (rows : List Row) (width : ℕ) → width ≡ length tests →
    AnswerAll tests (map answered rows) → All (λ row. length row.answers.items ≡ width) rows
answers_wide tests rows width same answers = λ k d less.
    let count : length (map answered rows) ≡ length rows = length-map rows answered in
    let row : slice_index_or (map answered rows) k (answered d) ≡ answered (slice_index_or rows k d) =
    get_or-map answered rows k d (answered d) less in
    answers_count tests (fields_of (slice_index_or rows k d).cells) (slice_index_or rows k d).answers.items
    (subst (λ (r : Answered). AreAnswers tests r.0 r.1) row (answers k (answered d) (rw count less))) ∙ sym same

-- one more value of a column
pub value_more : (column : List (Option Bool)) (rows : List Row) (number comparison : ℕ) (value : Option Bool)
    (item : Row) → length column ≡ length rows → number < length rows →
    value ≡ value_at (get_or rows number item).answers.items comparison →
    ((i : ℕ) → i < number → value_at column i ≡ value_at (answers_at rows i) comparison) →
    (i : ℕ) → i < number + 1 → value_at (slice_set column number value) i ≡ value_at (answers_at rows i) comparison
value_more column rows number comparison value item len inside is each i less = elim (cases_lt i number) [
  | inl before ↦
      get_or-set_other column number i value None (λ same. omega (arith, before, same)) ∙ each i before
  | inr here ↦
      let same : i ≡ number = omega (arith, less, here) in
      rw same (get_or-set_same column number value None (omega (arith, len, inside)) ∙ is
      ∙ sym (ap (λ answers. value_at answers comparison)
      (get_or-map (λ (row : Row). row.answers.items) rows number item [] inside)))
]

-- each row has its number of answers
pub answers_width : (rows : List Row) (comparisons : ℕ) → All (λ row. length row.answers.items ≡ comparisons) rows →
    (i : ℕ) → i < length rows → length (answers_at rows i) ≡ comparisons
answers_width rows comparisons wide i inside =
    All-map (λ answers. length answers ≡ comparisons) (λ (row : Row). row.answers.items) rows wide i []
    (omega (arith, inside, length-map rows (λ (row : Row). row.answers.items)))

-- one more column
pub column_more : (columns : List (List (Option Bool))) (column : List (Option Bool)) (rows : List Row)
    (comparison comparisons : ℕ) → comparison < comparisons →
    All (λ row. length row.answers.items ≡ comparisons) rows →
    ((i : ℕ) → i < length rows → value_at column i ≡ value_at (answers_at rows i) comparison) →
    ((i : ℕ) → i < length rows → row_at columns i ≡ take comparison (answers_at rows i)) →
    (i : ℕ) → i < length rows → row_at (columns ++ column ∷ []) i ≡ take (comparison + 1) (answers_at rows i)
column_more columns column rows comparison comparisons less wide value each i inside =
    let width : length (answers_at rows i) ≡ comparisons = answers_width rows comparisons wide i inside in
    map-append (λ c. value_at c i) columns (column ∷ [])
    ∙ ap (λ xs. xs ++ value_at column i ∷ []) (each i inside)
    ∙ ap (λ v. take comparison (answers_at rows i) ++ v ∷ []) (value i inside)
    ∙ sym (take_more (answers_at rows i) comparison None (omega (arith, width, less)))

-- a set value leaves the length
pub length_set : (column : List (Option Bool)) (number : ℕ) (value : Option Bool) (count : ℕ) → length column ≡ count →
    length (slice_set column number value) ≡ count
length_set column number value count same = length-set column number value ∙ same

-- the answers of a row with its cells
pub answers_second : (rows : List Row) (i : ℕ) → answers_at rows i ≡ (slice_index_or (map answered rows) i ([], [])).1
answers_second [] i = refl
answers_second (row ∷ rows) zero = refl
answers_second (row ∷ rows) (suc i) = answers_second rows i

-- the rows of a block that a filter keeps
pub kept_rows : {V E : Type 0} (bits : V → List Bool) (expression : Expression) (rows : List Row)
    (columns : List (List (Option Bool))) (result : Result V E) →
    ((i : ℕ) → i < length rows → row_at columns i ≡ answers_at rows i) →
    IfOk result (λ kept. IsFilter expression columns (length rows) (bits kept)) →
    IfOk result (λ kept. map (cells_of rows) (members (bits kept)) ≡ true_rows expression (map answered rows))
kept_rows bits expression rows columns (Err error) each is = tt
kept_rows bits expression rows columns (Ok kept) each is =
    let count : length (map answered rows) ≡ length rows = length-map rows answered in
    filtered expression (map answered rows) columns (bits kept) (rw count is)
    (λ i less. each i (rw count at less) ∙ answers_second rows i)
