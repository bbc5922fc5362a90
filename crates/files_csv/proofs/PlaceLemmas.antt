-- The line and the column after some bytes of a text.
use Rattle.std.specs.Prelude.{◌==◌, count_by, min, not}
use Rattle.std.specs.List.{prefix_len}
use Rattle.std.below.core.specs.declared.int.usize.TheConstants.{MAX}
use Rattle.std.proofs.Common.{◌≡◌, ◌≢◌, ◌∙◌, ◌++◌, ◌∷◌, [], ℕ, ◌+◌, ◌≤◌, Bool, false, List, append_assoc, ap, cond, drop, inl, inr, length, refl, reverse, sym, take, arith}
use Rattle.std.proofs.Math.Seq.{take-append_seam}
use Rattle.std.proofs.lemmas.List.{append-nil, append_cancel_left, length-append, reverse-append, take-append-drop}
use Rattle.std.proofs.lemmas.List.Sums.{sum_by-append}
use Rattle.files_csv.specs.Parts.{AreBody, AreRows}
use Rattle.files_csv.specs.Progress.{AreGone, BeginsRow}
use Rattle.files_csv.specs.Refused.{column_after, line_after}
use Rattle.files_csv.specs.Rows.{IsBody, IsRowEnd, mark}
use Rattle.files_csv.specs.declared.whole.WholeRows.{WholeRows}

-- a front ends at the first element that fails
stops : (p : ℕ → Bool) (front rest : List ℕ) (last : ℕ) → p last ≡ false →
    prefix_len p (front ++ last ∷ rest) ≡ prefix_len p front
stops p [] rest last fails = rw fails refl
stops p (first ∷ front) rest last fails = ap (λ n. cond (p first) (1 + n) 0) (stops p front rest last fails)

-- a line begins after a line feed
column_of_line : (lines before : List ℕ) → column_after ((lines ++ 10 ∷ []) ++ before) ≡ column_after before
column_of_line lines before =
    ap (λ n. n + 1) (ap (prefix_len other) back ∙ stops other (reverse before) (reverse lines) 10 refl)
  where
    other : ℕ → Bool
    other byte = not (byte == 10)

    back : reverse ((lines ++ 10 ∷ []) ++ before) ≡ reverse before ++ 10 ∷ reverse lines
    back =
        reverse-append (lines ++ 10 ∷ []) before ∙ ap (λ xs. reverse before ++ xs) (reverse-append lines (10 ∷ []))

abbrev feeds : List ℕ → ℕ
feeds bytes = count_by (λ byte. byte == 10) bytes

feeds-append : (xs ys : List ℕ) → feeds (xs ++ ys) ≡ feeds xs + feeds ys
feeds-append xs ys = sum_by-append (λ byte. cond (byte == 10) 1 0) xs ys

-- the mark has none
feeds_of_body : (seen body : List ℕ) → AreBody seen body → feeds seen ≡ feeds body
feeds_of_body seen body (inl same) =
    let marked : feeds (mark ++ body) ≡ feeds mark + feeds body = feeds-append mark body in
    let none : feeds mark ≡ 0 = refl in
    ap feeds same ∙ marked ∙ omega (arith, none)
feeds_of_body seen body (inr bare) = ap feeds bare.0

-- rows end in a line feed
last_line : (cells last end : List ℕ) → IsRowEnd end → (lines : List ℕ) × (cells ++ (last ++ end) ≡ lines ++ 10 ∷ [])
last_line cells last end (inl feed) =
    (cells ++ last, rw feed (sym (append_assoc cells last (10 ∷ []))))
last_line cells last end (inr both) = (
  cells ++ (last ++ 13 ∷ []),
  rw both (sym (append_assoc cells (last ++ 13 ∷ []) (10 ∷ [])
      ∙ ap (λ xs. cells ++ xs) (append_assoc last (13 ∷ []) (10 ∷ [])))),
)

-- more bytes of a text than those of a body
body_split : (gone row more body : List ℕ) → AreBody gone row → IsBody (gone ++ more) body → body ≡ row ++ more
body_split gone row more body (inl first) (inl all) =
    append_cancel_left mark body (row ++ more)
    (sym all ∙ ap (λ xs. xs ++ more) first ∙ append_assoc mark row more)
body_split gone row more body (inl first) (inr all) =
    absurd (all.1 (row ++ more) (ap (λ xs. xs ++ more) first ∙ append_assoc mark row more))
body_split gone row more body (inr first) (inl all) = absurd (first.1 more body all)
body_split gone row more body (inr first) (inr all) = sym all.0 ∙ ap (λ xs. xs ++ more) first.0

-- a body up to a place
pub body_cut : (seen cells cell : List ℕ) (start : ℕ) → AreBody seen (cells ++ cell) →
    start + length cell ≡ length seen → IsBody (take start seen) cells
body_cut seen cells cell start (inl same) size = inl (
    rw (all, len) (take-append_seam (mark ++ cells) cell)
    )
  where
    all : seen ≡ (mark ++ cells) ++ cell
    all = same ∙ sym (append_assoc mark cells cell)

    len : start ≡ length (mark ++ cells)
    len = omega (arith, size, ap length all, length-append (mark ++ cells) cell)
body_cut seen cells cell start (inr bare) size = inr (
  rw (bare.0, len) (take-append_seam cells cell),
  λ rest same. bare.1 [] (rest ++ drop start seen)
      (append-nil seen ∙ sym (take-append-drop start seen) ∙ ap (λ xs. xs ++ drop start seen) same
      ∙ append_assoc mark rest (drop start seen)),
)
  where
    len : start ≡ length cells
    len = omega (arith, size, ap length bare.0, length-append cells cell)

-- and after it
pub body_whole : (text seen body more : List ℕ) → AreBody seen body → text ≡ seen ++ more → IsBody text (body ++ more)
body_whole text seen body more (inl same) all =
    inl (all ∙ ap (λ xs. xs ++ more) same ∙ append_assoc mark body more)
body_whole text seen body more (inr bare) all =
    inr (all ∙ ap (λ xs. xs ++ more) bare.0, λ rest same. bare.1 more rest (sym all ∙ same))

-- what comes after bytes at hand, which come after rows that are gone
module _ {R : Type 0} (rows : WholeRows R) (gone text body before : List ℕ) (are : AreGone rows gone)
    (is : IsBody (gone ++ text) body)
    (start : rows.bytes ≡ 0 → (rest : List ℕ) → text ≡ mark ++ rest → before ≡ rest)
    (later : (rows.bytes ≡ 0 → (rest : List ℕ) → text ≢ mark ++ rest) → before ≡ text) where
  at_start : gone ≡ [] → before ≡ body
  at_start none = go (rw none at is)
    where
      zero_bytes : rows.bytes ≡ 0
      zero_bytes = are.bytes ∙ rw none refl

      go : IsBody text body → before ≡ body
      go (inl same) = start zero_bytes body same
      go (inr bare) = later (λ fresh. bare.1) ∙ bare.0

  at_row : AreRows gone → before ≡ text
  at_row row = later (λ none. absurd (some none))
    where
      end_some : IsRowEnd row.end → 1 ≤ length row.end
      end_some (inl feed) = rw feed (omega arith)
      end_some (inr both) = rw both (omega arith)

      long : AreBody gone (row.cells ++ (row.last ++ row.end)) → length row.end ≤ length gone
      long (inl same) = rw (same, length-append row.cells (row.last ++ row.end), length-append row.last row.end)
          (omega arith)
      long (inr bare) = rw (bare.0, length-append row.cells (row.last ++ row.end), length-append row.last row.end)
          (omega arith)

      some : rows.bytes ≢ 0
      some none = omega (arith, are.bytes, none, long row.body, end_some row.end_is)

  counted : BeginsRow gone → feeds body ≡ feeds gone + feeds before
  counted (inl none) = rw (none, at_start none) (omega arith)
  counted (inr row) =
      let same = body_split gone _ text body row.body is in
      let split = feeds-append (row.cells ++ (row.last ++ row.end)) text in
      rw (same, split, at_row row, feeds_of_body gone _ row.body) refl

  pub line_there : min (min (rows.lines + feeds before) MAX + 1) MAX ≡ line_after body
  line_there =
      let sum = counted are.begins in
      omega (arith, are.lines, sum)

  pub column_there : column_after before ≡ column_after body
  column_there = go are.begins
    where
      go : BeginsRow gone → column_after before ≡ column_after body
      go (inl none) = ap column_after (at_start none)
      go (inr row) =
          let line = last_line row.cells row.last row.end row.end_is in
          ap column_after (at_row row) ∙ sym (column_of_line line.0 text)
          ∙ sym (ap column_after (body_split gone _ text body row.body is ∙ ap (λ xs. xs ++ text) line.1))
