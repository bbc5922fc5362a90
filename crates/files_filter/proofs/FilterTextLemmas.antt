-- Rows that are written one after another.
use Rattle.std.specs.Prelude.{All, count_by, IsTrue, filter, map, option_map, slice_index_or, unwrap_or}
use Rattle.std.specs.List.{flat_map, range_with_len}
use Rattle.std.specs.Io.KnownBytes.{Appends, Keeps}
use Rattle.std.proofs.Common.{Vec, Global, Option, None, Some, ◌≡◌, ◌≢◌, ℕ, Bool, true, false, cond, List, [], ◌∷◌, ◌++◌, ◌+◌, ◌-◌, ◌<◌, ◌≤◌, length, suc, take, drop, inl, inr, refl, ap, sym, ◌∙◌, subst, arith}
use Rattle.std.proofs.Math.Seq.{drop-append-add, take-append-add}
use Rattle.std.proofs.lemmas.Bool.{cases_lt}
use Rattle.std.proofs.lemmas.List.{append-nil, drop-append-le, drop-map, drop_all, drop_more, length-drop, length-map, length-take, map-append, take-append-le, take-map, take_all}
use Rattle.std.proofs.lemmas.List.Elements.{filter-append}
use Rattle.std.proofs.lemmas.List.Folds.{flat_map-map}
use Rattle.std.proofs.lemmas.List.Elements.{All-drop, All-take}
use Rattle.std.proofs.lemmas.List.Sums.{count_by-le-length}
use Rattle.files_text.proofs.PrintedLemmas.{members_inside}
use Rattle.vob_walk.proofs.IndexLemmas.{matches_count}
use Rattle.vob_block.specs.Packing.{item}
use Rattle.vob_walk.specs.Matches.{has_value, matches}
use Rattle.vob_filter.specs.Columns.{row_at}
use Rattle.vob_filter.specs.Filter.{IsFilter, truth}
use Rattle.vob_filter.specs.declared.filter.Expression.{Expression}
use Rattle.csv.specs.Writing.{fields_written, has_written, row_text, text_written, writer_pending, writer_setup, writer_under}
use Rattle.csv.specs.declared.writer.Writer.{Writer}
use Rattle.csv.specs.declared.writer.WriterBuilder.{WriterBuilder}
use Rattle.csv.specs.declared.writer.QuoteStyle.TheVariants.{Necessary, NonNumeric}
use Rattle.files_text.specs.Printed.{members}
use Rattle.files_filter.specs.FilterText.{Answered, IsReady, is_true, row_line, rows_text, true_rows, windowed}
use Rattle.files_filter.specs.Layouts.{writer_of}
use Rattle.files_filter.specs.Reading.{Cells}
use Rattle.files_filter.specs.declared.layout.Layout.{Layout}

module _ {W : Type 0} (contents : W → Option (List ℕ)) (delimiter : ℕ) (old new : Writer W)
    (ready : IsReady delimiter old) where
  -- a writer writes a row as a line
  pub row_written : (cells shown : List (List ℕ)) → shown ≡ cells →
      (fields_written old ≡ 0 → has_written old ≡ false → (writer_setup old).style ≢ NonNumeric →
      Appends (text_written contents old) (text_written contents new)
      (row_text (writer_setup old) cells)) →
      Appends (text_written contents old) (text_written contents new) (row_text (writer_of delimiter) shown)
  row_written cells shown same wrote =
      let line : Appends (text_written contents old) (text_written contents new) (row_text (writer_of delimiter) cells) =
      subst (λ setup. Appends (text_written contents old) (text_written contents new)
      (row_text setup cells)) ready.setup (wrote ready.fields ready.wrote other) in
      subst (λ row. Appends (text_written contents old) (text_written contents new) (row_text (writer_of delimiter) row))
      (sym same) line
    where
      other : (writer_setup old).style ≢ NonNumeric
      other same =
          let necessary : Necessary ≡ NonNumeric =
          sym (ap (λ (setup : WriterBuilder). setup.style) ready.setup) ∙ same in cc

  pub ready_after : fields_written new ≡ 0 → has_written new ≡ false →
      writer_setup new ≡ writer_setup old → IsReady delimiter new
  ready_after fields wrote setup = record {
    setup = setup ∙ ready.setup;
    fields = fields;
    wrote = wrote;
  }

-- a writer that wrote a text into an empty list, up to the last flush
pub text_kept : (fresh written : Writer (Vec ℕ Global)) (after : Vec ℕ Global) →
    text_written (λ v. Some v.items) fresh ≡ Some [] → (text : List ℕ) →
    Appends (text_written (λ v. Some v.items) fresh) (text_written (λ v. Some v.items) written) text →
    Keeps (text_written (λ v. Some v.items) written) (Some after.items) → after.items ≡ text
text_kept fresh written after empty text appended kept =
    kept ∙ subst (λ known. Appends known (text_written (λ v. Some v.items) written) text) empty appended

pub starts_empty : (fresh : Writer (Vec ℕ Global)) (list : Vec ℕ Global) → writer_under fresh ≡ list →
    list.items ≡ [] → writer_pending fresh ≡ [] → text_written (λ v. Some v.items) fresh ≡ Some []
starts_empty fresh list under items pending =
    ap (λ (v : Vec ℕ Global). Some (v.items ++ writer_pending fresh)) under
    ∙ ap (λ xs. Some (xs ++ writer_pending fresh)) items ∙ ap Some pending

-- ---- the rows of which a condition is true

same_bit : (bit : Bool) (value : Option Bool) → (IsTrue bit → value ≡ Some true) →
    (value ≡ Some true → IsTrue bit) → bit ≡ unwrap_or value false
same_bit true value there back = rw (there refl) refl
same_bit false None there back = refl
same_bit false (Some false) there back = refl
same_bit false (Some true) there back = back refl

-- a number or an item more is kept, or neither is
one_kept : (bit : Bool) (number : ℕ) (numbers : List ℕ) (row : Answered) (rows : List Answered) (cells : ℕ → Cells) →
    cells number ≡ row.0 → map cells numbers ≡ map (λ r. r.0) rows →
    map cells (cond bit (number ∷ numbers) numbers) ≡ map (λ r. r.0) (cond bit (row ∷ rows) rows)
one_kept true number numbers row rows cells same rest = ap (λ c. c ∷ map cells numbers) same ∙ ap (λ cs. row.0 ∷ cs) rest
one_kept false number numbers row rows cells same rest = rest

module _ (all : List Answered) (keep : ℕ → Bool) (keeps : Answered → Bool)
    (same : (i : ℕ) → i < length all → keep i ≡ keeps (slice_index_or all i ([], []))) where
  -- the cells of the rows whose numbers are kept are those of the rows that are
  picked : (rows : List Answered) (start : ℕ) → drop start all ≡ rows →
      map (λ i. (slice_index_or all i ([], [])).0) (filter keep (range_with_len start (length rows)))
      ≡ map (λ row. row.0) (filter keeps rows)
  picked [] start rest = refl
  picked (row ∷ rows) start rest =
      let size : length (drop start all) ≡ length all - start = length-drop start all in
      let long : length (drop start all) ≡ suc (length rows) = ap length rest in
      let less : start < length all = omega (arith, size, long) in
      let next = sym (drop_more all start ([], []) less) ∙ rest in
      let here : slice_index_or all start ([], []) ≡ row = ap (λ rs. slice_index_or rs 0 ([], [])) next in
      let bit : keep start ≡ keeps row = same start less ∙ ap keeps here in
      rw bit (one_kept (keeps row) start _ row (filter keeps rows) (λ i. (slice_index_or all i ([], [])).0)
      (ap (λ r. r.0) here) (picked rows (start + 1) (ap (drop 1) next)))

-- the bits of a filter are set at the rows of which its condition is true
pub filtered : (expression : Expression) (rows : List Answered) (columns : List (List (Option Bool)))
    (kept : List Bool) → IsFilter expression columns (length rows) kept →
    ((i : ℕ) → i < length rows → row_at columns i ≡ (slice_index_or rows i ([], [])).1) →
    map (λ i. (slice_index_or rows i ([], [])).0) (members kept) ≡ true_rows expression rows
unfolding matches
filtered expression rows columns kept is answers =
    ap (λ n. map (λ i. (slice_index_or rows i ([], [])).0) (filter (item kept) (range_with_len 0 n))) is.len
    ∙ picked rows (item kept) (is_true expression) same rows 0 refl
  where
    same : (i : ℕ) → i < length rows → item kept i ≡ is_true expression (slice_index_or rows i ([], []))
    same i less =
        same_bit (item kept i) (truth expression (row_at columns i)) (is.each i).0 (is.each i).1
        ∙ ap (λ row. unwrap_or (truth expression row) false) (answers i less)

-- ---- windows

drop_join : (n : ℕ) (xs ys : List Cells) → drop n (xs ++ ys) ≡ drop n xs ++ drop (n - length xs) ys
drop_join n xs ys = elim (cases_lt (length xs) n) [
  | inl past ↦
      let all : drop n xs ≡ [] = drop_all n xs (omega (arith, past)) in
      let split : n ≡ length xs + (n - length xs) = omega (arith, past) in
      ap (λ k. drop k (xs ++ ys)) split ∙ drop-append-add xs ys (n - length xs)
      ∙ ap (λ cs. cs ++ drop (n - length xs) ys) (sym all)
  | inr inside ↦
      let none : n - length xs ≡ 0 = omega (arith, inside) in
      drop-append-le n xs ys inside ∙ ap (λ k. drop n xs ++ drop k ys) (sym none)
]

take_join : (n : ℕ) (xs ys : List Cells) → take n (xs ++ ys) ≡ take n xs ++ take (n - length (take n xs)) ys
take_join n xs ys = elim (cases_lt (length xs) n) [
  | inl past ↦
      let all : take n xs ≡ xs = take_all n xs (omega (arith, past)) in
      let split : n ≡ length xs + (n - length xs) = omega (arith, past) in
      rw all (ap (λ k. take k (xs ++ ys)) split ∙ take-append-add xs ys (n - length xs))
  | inr inside ↦
      let none : n - length (take n xs) ≡ 0 = omega (arith, length-take n xs, inside) in
      take-append-le n xs ys inside ∙ sym (append-nil (take n xs)) ∙ ap (λ k. take n xs ++ take k ys) (sym none)
]

-- what a window shows of rows, and then of those after them
pub windowed_join : (skip : ℕ) (most : Option ℕ) (xs ys : List Cells) →
    windowed skip most (xs ++ ys)
    ≡ windowed skip most xs
    ++ windowed (skip - length xs) (option_map (λ n. n - length (windowed skip most xs)) most) ys
windowed_join skip None xs ys = drop_join skip xs ys
windowed_join skip (Some most) xs ys =
    ap (take most) (drop_join skip xs ys) ∙ take_join most (drop skip xs) (drop (skip - length xs) ys)

pub true_join : (expression : Expression) (xs ys : List Answered) →
    true_rows expression (xs ++ ys) ≡ true_rows expression xs ++ true_rows expression ys
true_join expression xs ys =
    ap (map (λ row. row.0)) (filter-append (is_true expression) xs ys)
    ∙ map-append (λ row. row.0) (filter (is_true expression) xs) (filter (is_true expression) ys)

-- ---- numbers of rows

length-members : (bits : List Bool) → length (members bits) ≤ length bits
length-members bits =
    omega (arith, matches_count bits true, count_by-le-length (has_value true) bits)

-- the numbers in a window are below the length
pub window_inside : (skip count : ℕ) (bits : List Bool) (rows : ℕ) → length bits ≡ rows →
    All (λ number. number < rows) (take count (drop skip (members bits)))
window_inside skip count bits rows long =
    rw (← long) (All-take (λ k. k < length bits) count _
    (All-drop (λ k. k < length bits) skip (members bits) (members_inside bits)))

module _ (layout : Layout) (cells : ℕ → Cells) (rows : List Cells) (bits : List Bool) (same : map cells (members bits) ≡ rows) where
  -- the rows with the numbers in a window
  pub window_rows : (skip : ℕ) (most : Option ℕ) (count : ℕ) → count ≡ length bits →
      map cells (take (unwrap_or most count) (drop skip (members bits))) ≡ windowed skip most rows
  window_rows skip None count long =
      let short : length (drop skip (members bits)) ≡ length (members bits) - skip =
      length-drop skip (members bits) in
      ap (map cells) (take_all count (drop skip (members bits)) (omega (arith, short, long, length-members bits)))
      ∙ sym (drop-map cells skip (members bits)) ∙ ap (drop skip) same
  window_rows skip (Some most) count long =
      sym (take-map cells most (drop skip (members bits)))
      ∙ ap (take most) (sym (drop-map cells skip (members bits)) ∙ ap (drop skip) same)

  pub window_text : (skip : ℕ) (most : Option ℕ) (count : ℕ) → count ≡ length bits →
      flat_map (λ number. row_line layout (cells number)) (take (unwrap_or most count) (drop skip (members bits)))
      ≡ rows_text layout (windowed skip most rows)
  window_text skip most count long =
      sym (flat_map-map (row_line layout) cells (take (unwrap_or most count) (drop skip (members bits))))
      ∙ ap (rows_text layout) (window_rows skip most count long)

  pub window_count : (skip : ℕ) (most : Option ℕ) (count : ℕ) → count ≡ length bits →
      length (take (unwrap_or most count) (drop skip (members bits))) ≡ length (windowed skip most rows)
  window_count skip most count long =
      sym (length-map (take (unwrap_or most count) (drop skip (members bits))) cells)
      ∙ ap length (window_rows skip most count long)

  pub rows_count : (count : ℕ) → count ≡ count_by (has_value true) bits → count ≡ length rows
  rows_count count is = is ∙ sym (matches_count bits true) ∙ sym (length-map (members bits) cells) ∙ ap length same
