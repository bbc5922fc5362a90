-- What a filter writes, block by block.
use Rattle.std.specs.Prelude.{map, option_map}
use Rattle.std.specs.Io.KnownBytes.{Appends}
use Rattle.std.proofs.Common.{◌≡◌, ◌∙◌, ◌+◌, ◌-◌, ◌^◌, ◌<◌, ℕ, List, [], ◌∷◌, ◌++◌, Option, None, Some, append_assoc, ap, arith, length, refl, subst, sym, take}
use Rattle.std.proofs.lemmas.Grind.{flat_map-append}
use Rattle.std.proofs.lemmas.List.{append-nil, drop_all, length-append, map-append, take_all}
use Rattle.std.proofs.lemmas.List.Elements.{All-append}
use Rattle.files_text.proofs.PrintedLemmas.{Appends-both, Appends-none}
use Rattle.vob_filter.specs.declared.filter.Expression.{Expression}
use Rattle.files_filter.specs.Answers.{AreAnswers}
use Rattle.files_filter.specs.Blocks.{AnswerAll, Follows, HasAsked}
use Rattle.files_filter.specs.FilterText.{Answered, row_line, rows_text, shown, true_rows, windowed}
use Rattle.files_filter.specs.Filtered.{AreWritten, IsFiltered, IsShown, heading}
use Rattle.files_filter.specs.Reading.{AreAllRows, Cells, Delimited}
use Rattle.files_filter.specs.declared.block.Next.{Next}
use Rattle.files_filter.specs.declared.block.Next.TheVariants.{End, Fault, Rows}
use Rattle.files_filter.specs.RowFaults.{IsRowFault}
use Rattle.files_filter.specs.FilterFaults.{WritesShown, WritesWindow}
use Rattle.files_filter.specs.declared.fault.FilterFault.{FilterFault}
use Rattle.files_filter.specs.declared.comparing.Test.{Test}
use Rattle.files_filter.specs.declared.filter.Shows.{Shows}
use Rattle.files_filter.specs.declared.layout.Layout.{Layout}
use Rattle.files_filter.specs.declared.questions.Questions.{Questions}
use Rattle.files_filter.specs.declared.table.Table.{Table}
use Rattle.files_filter.proofs.FilterTextLemmas.{true_join, windowed_join}

-- rows were read of a text after some, and are written; what is left of the window
pub record HasFiltered {R : Type 0} (remaining : R → Option (List ℕ)) (text : Delimited) (before : List Cells)
    (tests : List Test) (expression : Expression) (layout : Layout) (skip : ℕ) (most : Option ℕ) (old new : Option (List ℕ))
    (table : Table R) (questions : Questions) (found after : ℕ) (left : Option ℕ) : Type 0 where
  pub rows : List Answered
  pub read : HasAsked remaining text (before ++ map (λ row. row.0) rows) table questions
  pub written : AreWritten tests expression layout skip most old new found rows
  pub now : after ≡ skip - found
  pub still : left ≡ option_map (λ n. n - length (windowed skip most (true_rows expression rows))) most

windowed_none : (skip : ℕ) (most : Option ℕ) → windowed skip most [] ≡ []
windowed_none skip None = drop_all skip [] (omega arith)
windowed_none skip (Some most) = ap (take most) (drop_all skip [] (omega arith)) ∙ take_all most [] (omega arith)

-- no row was read yet
pub none_yet : {R : Type 0} (remaining : R → Option (List ℕ)) (text : Delimited) (before : List Cells)
    (tests : List Test) (expression : Expression) (layout : Layout) (skip : ℕ) (most : Option ℕ) (known : Option (List ℕ))
    (table : Table R) (questions : Questions) → HasAsked remaining text before table questions →
    HasFiltered remaining text before tests expression layout skip most known known table questions 0 skip most
none_yet remaining text before tests expression layout skip most known table questions read =
    let none = windowed_none skip most in record {
      rows = [];
      read = rw (append-nil before) read;
      written = record {
        answers = λ k d less. let no : ⊥ = omega (arith, less) in absurd no;
        wrote = rw none (Appends-none known);
        count = refl;
      };
      now = omega arith;
      still = rw none (same most);
    }
  where
    same : (most : Option ℕ) → most ≡ option_map (λ n. n - 0) most
    same None = refl
    same (Some most) = let whole : most ≡ most - 0 = omega arith in ap Some whole

twice : (first second : ℕ) (most : Option ℕ) →
    option_map (λ n. n - second) (option_map (λ n. n - first) most) ≡ option_map (λ n. n - (first + second)) most
twice first second None = refl
twice first second (Some most) =
    let both : (most - first) - second ≡ most - (first + second) = omega arith in ap Some both

module _ (tests : List Test) (expression : Expression) (layout : Layout) (skip : ℕ) (most : Option ℕ) (old now new : Option (List ℕ))
    (found after : ℕ) (left : Option ℕ) (rows block : List Answered)
    (before : AreWritten tests expression layout skip most old now found rows) (past : after ≡ skip - found)
    (still : left ≡ option_map (λ n. n - length (windowed skip most (true_rows expression rows))) most)
    (answers : AnswerAll tests block)
    (wrote : Appends now new (rows_text layout (windowed after left (true_rows expression block)))) where
  -- what the window shows of the rows and of the block after them
  joined : windowed skip most (true_rows expression (rows ++ block))
      ≡ windowed skip most (true_rows expression rows) ++ windowed after left (true_rows expression block)
  joined =
      let count : skip - length (true_rows expression rows) ≡ after = omega (arith, before.count, past) in
      ap (windowed skip most) (true_join expression rows block)
      ∙ windowed_join skip most (true_rows expression rows) (true_rows expression block)
      ∙ rw (count, still) refl

  -- the rows of a block are written after those before
  pub block_written : (kept : ℕ) → kept ≡ length (true_rows expression block) →
      AreWritten tests expression layout skip most old new (found + kept) (rows ++ block)
  block_written kept same = record {
    answers = All-append (λ (row : Answered). AreAnswers tests row.0 row.1) rows block before.answers answers;
    wrote = rw (
      joined,
      flat_map-append (row_line layout) (windowed skip most (true_rows expression rows))
          (windowed after left (true_rows expression block)),
    )
        (Appends-both old now new _ _ before.wrote wrote);
    count =
        let both : length (true_rows expression (rows ++ block))
        ≡ length (true_rows expression rows) + length (true_rows expression block) =
        ap length (true_join expression rows block)
        ∙ length-append (true_rows expression rows) (true_rows expression block) in
        omega (arith, both, before.count, same);
  }

  pub still_left : (written : ℕ) → written ≡ length (windowed after left (true_rows expression block)) →
      option_map (λ n. n - written) left
      ≡ option_map (λ n. n - length (windowed skip most (true_rows expression (rows ++ block)))) most
  still_left written same =
      let shown = length (windowed skip most (true_rows expression rows)) in
      let size : length (windowed skip most (true_rows expression (rows ++ block))) ≡ shown + written =
      ap length joined
      ∙ length-append (windowed skip most (true_rows expression rows)) (windowed after left (true_rows expression block))
      ∙ ap (λ n. shown + n) (sym same) in
      ap (option_map (λ n. n - written)) still ∙ twice shown written most
      ∙ ap (λ size. option_map (λ n. n - size) most) (sym size)

-- rows come after those before
pub cells_after : (before : List Cells) (rows block : List Answered) →
    before ++ map (λ row. row.0) (rows ++ block) ≡ (before ++ map (λ row. row.0) rows) ++ map (λ row. row.0) block
cells_after before rows block =
    ap (λ cells. before ++ cells) (map-append (λ (row : Answered). row.0) rows block)
    ∙ sym (append_assoc before (map (λ row. row.0) rows) (map (λ row. row.0) block))

module _ {R : Type 0} (remaining : R → Option (List ℕ)) (text : Delimited) (before : List Cells)
    (tests : List Test) (expression : Expression) (layout : Layout) (skip : ℕ) (most : Option ℕ) (old now new : Option (List ℕ))
    (table : Table R) (questions : Questions) (found after : ℕ) (left : Option ℕ)
    (so : HasFiltered remaining text before tests expression layout skip most old now table questions found after left)
    (block : List Answered) (answers : AnswerAll tests block) (kept sum : ℕ)
    (same : kept ≡ length (true_rows expression block)) (adds : sum ≡ found + kept)
    (wrote : Appends now new (rows_text layout (windowed after left (true_rows expression block)))) where
  all_written : AreWritten tests expression layout skip most old new sum (so.rows ++ block)
  all_written =
      rw adds (block_written tests expression layout skip most old now new found after left so.rows block so.written so.now
      so.still answers wrote kept same)

  -- rows may come after the block
  pub more_filtered : (written next : ℕ) (rest : Option ℕ) (last : Table R) (asked : Questions) →
      written ≡ length (windowed after left (true_rows expression block)) → next ≡ after - kept →
      rest ≡ option_map (λ n. n - written) left →
      HasAsked remaining text ((before ++ map (λ row. row.0) so.rows) ++ map (λ row. row.0) block) last asked →
      HasFiltered remaining text before tests expression layout skip most old new last asked sum next rest
  more_filtered written next rest last asked many past smaller read = record {
    rows = so.rows ++ block;
    read = rw (cells_after before so.rows block) read;
    written = all_written;
    now = omega (arith, past, so.now, adds);
    still = smaller ∙ still_left tests expression layout skip most old now new found after left so.rows block so.written
        so.now so.still answers wrote written many;
  }

  -- or none
  pub all_filtered : AreAllRows text ((before ++ map (λ row. row.0) so.rows) ++ map (λ row. row.0) block) →
      IsFiltered text before tests expression layout skip most old new sum
  all_filtered all = record {
    rows = so.rows ++ block;
    all = rw (cells_after before so.rows block) all;
    written = all_written;
  }

  -- or a fault
  pub first_filtered : (fault : FilterFault) →
      IsRowFault text ((before ++ map (λ row. row.0) so.rows) ++ map (λ row. row.0) block) tests fault →
      sum < 2 ^ 64 → WritesWindow text before tests expression layout skip most old new fault
  first_filtered fault is less = record {
    rows = so.rows ++ block;
    fault_is = rw (cells_after before so.rows block) is;
    answers = all_written.answers;
    wrote = all_written.wrote;
    few = rw all_written.count at less;
  }

-- what comes after a block
module _ {R : Type 0} (remaining : R → Option (List ℕ)) (text : Delimited) (rows : List Cells) (table : Table R)
    (questions : Questions) (next : Next) (follows : Follows remaining text rows table questions next) where
  pub then_rows : next ≡ Rows → HasAsked remaining text rows table questions
  then_rows same = subst (λ n. Follows remaining text rows table questions n) same follows

  pub then_none : next ≡ End → AreAllRows text rows
  then_none same = subst (λ n. Follows remaining text rows table questions n) same follows

  pub then_fault : (fault : FilterFault) → next ≡ Fault fault → IsRowFault text rows questions.tests.items fault
  then_fault fault same = subst (λ n. Follows remaining text rows table questions n) same follows

-- the header and the rows of a window are what is shown
pub shown_all : (text : Delimited) (header : Cells) (tests : List Test) (expression : Expression) (layout : Layout)
    (shows : Shows) (skip : ℕ) (most : Option ℕ) (old now new : Option (List ℕ)) (found : ℕ) →
    ((rows : List Cells) → length rows < 2 ^ 64 → windowed skip most rows ≡ shown shows rows) → found < 2 ^ 64 →
    Appends old now (heading layout shows header) → IsFiltered text (header ∷ []) tests expression layout skip most now new found →
    IsShown text header tests expression layout shows old new found
shown_all text header tests expression layout shows skip most old now new found window less head is =
    let short : length (true_rows expression is.rows) < 2 ^ 64 = rw is.written.count at less in record {
      rows = is.rows;
      all = is.all;
      answers = is.written.answers;
      wrote = Appends-both old now new _ _ head (rw (window (true_rows expression is.rows) short) at is.written.wrote);
      count = is.written.count;
    }

pub shown_first : (text : Delimited) (header : Cells) (tests : List Test) (expression : Expression) (layout : Layout)
    (shows : Shows) (skip : ℕ) (most : Option ℕ) (old now new : Option (List ℕ)) (fault : FilterFault) →
    ((rows : List Cells) → length rows < 2 ^ 64 → windowed skip most rows ≡ shown shows rows) →
    Appends old now (heading layout shows header) → WritesWindow text (header ∷ []) tests expression layout skip most now new fault →
    WritesShown text header tests expression layout shows old new fault
shown_first text header tests expression layout shows skip most old now new fault window head is = record {
  rows = is.rows;
  fault_is = is.fault_is;
  answers = is.answers;
  wrote = Appends-both old now new _ _ head (rw (window (true_rows expression is.rows) is.few) at is.wrote);
}
