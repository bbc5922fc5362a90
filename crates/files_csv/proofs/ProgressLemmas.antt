-- How a reader of whole rows goes on.
use Rattle.std.specs.Prelude.{codes}
use Rattle.std.specs.Io.KnownBytes.{IsAtEnd}
use Rattle.std.proofs.Common.{◌≡◌, ◌≢◌, ◌∙◌, ◌++◌, ◌∷◌, [], ℕ, zero, suc, ◌+◌, ◌<◌, ◌≤◌, List, None, Option, Some, append_assoc, ap, drop, get_or, inl, inr, length, refl, subst, sym, take, take-add, arith}
use Rattle.std.proofs.Math.Seq.{take-append_seam}
use Rattle.std.proofs.lemmas.List.{append-nil, length-append, length-take, length-take-le, take-append-drop, take-take, take_all, take_more}
use Rattle.std.proofs.lemmas.List.Elements.{All-nil}
use Rattle.std.proofs.lemmas.List.Prefix.{front_rest}
use Rattle.files_csv.specs.Parts.{CantStand, InCell, MayEnd, Stands, StandsNext}
use Rattle.files_csv.specs.Progress.{AreGone, BeginsRow, HasEnded, HasRead, HasReadTo, HasRefused, HasScanned, IsRead, RefusesAfter}
use Rattle.files_csv.specs.Rows.{IsBody, IsCell, IsCsv, IsPlain, mark}
use Rattle.files_csv.specs.Rows.AreCells.{none as no_cells, row as one_row}
use Rattle.files_csv.specs.Whole.{LeavesText}
use Rattle.files_csv.specs.declared.quotes.Part.{Part}
use Rattle.files_csv.specs.declared.quotes.Part.TheVariants.{End, Mark, Plain, Quote, Quoted, Return, Start}
use Rattle.files_csv.specs.declared.whole.WholeRows.{WholeRows}
use Rattle.files_csv.proofs.PartLemmas.{cell_ends, mark_begins}
use Rattle.files_csv.proofs.PlaceLemmas.{body_cut, body_whole}

-- what was read stays
read_same : {R : Type 0} (remaining : R → Option (List ℕ)) (text : List ℕ) (old new : WholeRows R)
    (gone left : List ℕ) → LeavesText old new → new.refused ≡ None → IsRead remaining text old gone left →
    IsRead remaining text new gone left
read_same remaining text old new gone left leaves none read = record {
  input = rw leaves.input read.input;
  text_is = rw (leaves.filled, leaves.text) read.text_is;
  inside = rw (leaves.filled, leaves.text) read.inside;
  gone_are = record {
    begins = read.gone_are.begins;
    bytes = leaves.bytes ∙ read.gone_are.bytes;
    lines = leaves.lines ∙ read.gone_are.lines;
  };
  none = none;
}

pub none_some : {A : Type 0} (x : A) → None ≢ Some x
none_some x same = subst present same tt
  where
    present : {A : Type 0} → Option A → Type 0
    present None = Unit {0}
    present (Some y) = ⊥

-- one more byte is scanned
module _ {R : Type 0} (remaining : R → Option (List ℕ)) (text : List ℕ) (old new : WholeRows R) (at place : ℕ)
    (has : HasScanned remaining text old at) (less : at < old.filled) (same : place ≡ at + 1)
    (leaves : LeavesText old new) (kept : new.refused ≡ old.refused) where
  stands_on : old.given ≤ new.whole → new.whole ≤ at + 1 → new.whole ≤ new.cell →
      BeginsRow (has.gone ++ take new.whole old.text.items) →
      Stands new.part (has.gone ++ take (at + 1) old.text.items) (length has.gone + new.cell) →
      HasScanned remaining text new (at + 1)
  stands_on given whole cell begins stands = record {
    gone = has.gone;
    left = has.left;
    read = read_same remaining text old new has.gone has.left leaves (kept ∙ has.read.none) has.read;
    scanned = rw leaves.filled (omega (arith, less));
    whole = whole;
    given = rw leaves.given given;
    cell = cell;
    begins = rw leaves.text begins;
    stands = rw leaves.text stands;
  }

  size : length (has.gone ++ take (at + 1) old.text.items) ≡ length has.gone + place
  size =
      let inside : at + 1 ≤ length old.text.items = omega (arith, less, has.read.inside) in
      rw (length-append has.gone (take (at + 1) old.text.items), length-take-le (at + 1) old.text.items inside, same)
      refl

  pub row_more : (next : Part) → next ≡ End → new.part ≡ Start → new.whole ≡ place → new.cell ≡ place →
      StandsNext next (has.gone ++ take (at + 1) old.text.items) (length has.gone + old.cell) →
      HasScanned remaining text new (at + 1)
  row_more next is part whole cell stands =
      let now = rw is at stands in
      stands_on (omega (arith, whole, same, has.given, has.whole)) (omega (arith, whole, same))
      (omega (arith, whole, cell)) (rw (whole, same) (inr now.1)) (rw (part, cell, ← size) now.0)

  pub cell_more : (next : Part) → next ≡ Start → new.part ≡ Start → new.whole ≡ old.whole → new.cell ≡ place →
      StandsNext next (has.gone ++ take (at + 1) old.text.items) (length has.gone + old.cell) →
      HasScanned remaining text new (at + 1)
  cell_more next is part whole cell stands =
      let now = rw is at stands in
      stands_on (omega (arith, whole, has.given)) (omega (arith, whole, has.whole))
      (omega (arith, whole, cell, same, has.whole)) (rw whole has.begins) (rw (part, cell, ← size) now)

-- the next byte at hand comes after those that are scanned
module _ {R : Type 0} (remaining : R → Option (List ℕ)) (text : List ℕ) (old : WholeRows R) (at : ℕ)
    (has : HasScanned remaining text old at) (less : at < old.filled) where
  abbrev items : List ℕ
  items = old.text.items

  abbrev byte : ℕ
  byte = get_or items at 0

  abbrev seen : List ℕ
  seen = has.gone ++ take at items

  pub seen_more : has.gone ++ take (at + 1) items ≡ seen ++ byte ∷ []
  seen_more =
      let inside : at < length items = omega (arith, less, has.read.inside) in
      ap (λ xs. has.gone ++ xs) (take_more items at 0 inside) ∙ sym (append_assoc has.gone (take at items) (byte ∷ []))

  pub before_byte : (expected : List ℕ) → (cant : CantStand seen byte expected) → IsBody seen (cant.cells ++ cant.cell)
  before_byte expected cant =
      rw (take-append_seam seen (byte ∷ [])) at (body_cut (seen ++ byte ∷ []) (cant.cells ++ cant.cell) (byte ∷ [])
      (length seen) cant.body (sym (length-append seen (byte ∷ []))))

  abbrev rest : List ℕ
  rest = drop (at + 1) (take old.filled items) ++ has.left

  all : text ≡ (seen ++ byte ∷ []) ++ rest
  all =
      let cut : take old.filled items ≡ take (at + 1) items ++ drop (at + 1) (take old.filled items) =
      sym (take-append-drop (at + 1) (take old.filled items))
      ∙ ap (λ xs. xs ++ drop (at + 1) (take old.filled items))
      (take-take (at + 1) old.filled items (omega (arith, less))) in
      has.read.text_is ∙ ap (λ xs. (has.gone ++ xs) ++ has.left) cut
      ∙ ap (λ xs. xs ++ has.left)
      (sym (append_assoc has.gone (take (at + 1) items) (drop (at + 1) (take old.filled items))))
      ∙ append_assoc (has.gone ++ take (at + 1) items) (drop (at + 1) (take old.filled items)) has.left
      ∙ ap (λ xs. xs ++ rest) seen_more

  pub byte_refused : (new : WholeRows R) (expected : List ℕ) (cant : CantStand seen byte expected) →
      RefusesAfter new (cant.cells ++ cant.cell) expected → HasRefused text new
  byte_refused new expected cant refuses =
      let cell_all : take (length cant.cell) cant.cell ≡ cant.cell =
      take_all (length cant.cell) cant.cell (omega arith) in
      record {
        fault = refuses.fault;
        found = refuses.found;
        is = record {
          cells = cant.cells;
          cell = cant.cell;
          rest = byte ∷ rest;
          place = length cant.cell;
          body = rw (append_assoc (cant.cells ++ cant.cell) (byte ∷ []) rest) at
              (body_whole text (seen ++ byte ∷ []) ((cant.cells ++ cant.cell) ++ byte ∷ []) rest cant.body all);
          each = cant.each;
          refuses = rw (refuses.expected_is) (cant.cant, refl);
          line_is = rw cell_all (refuses.line_is);
          column_is = rw cell_all (refuses.column_is);
        };
      }

-- at the end of a text
take_past : (front back : List ℕ) (count : ℕ) → take (length front + count) (front ++ back) ≡ front ++ take count back
take_past front back count =
    take-add (length front) count (front ++ back)
    ∙ ap (λ xs. xs ++ take count (drop (length front) (front ++ back))) (take-append_seam front back)
    ∙ ap (λ xs. front ++ take count xs) (front_rest (front ++ back) front back refl)

pub no_mark : (seen rest : List ℕ) → length seen < 3 → seen ≢ mark ++ rest
no_mark seen rest short same =
    let size : length seen ≡ length mark + length rest = ap length same ∙ length-append mark rest in
    let three : length mark ≡ 3 = refl in
    omega (arith, short, size, three)

in_csv : (part : Part) (text seen : List ℕ) (start : ℕ) → part ≢ Quoted → part ≢ Return → InCell part seen start →
    text ≡ seen ++ [] → IsCsv text
in_csv part text seen start shut wait now all = record {
  cells = now.cells;
  last = now.cell;
  body = rw (append-nil (now.cells ++ now.cell)) at (body_whole text seen (now.cells ++ now.cell) [] now.body all);
  each = now.each;
  end = cell_ends part now.cell shut wait now.begins;
}

ends_well : (part : Part) (text seen : List ℕ) (start : ℕ) → part ≢ Quoted → part ≢ Return →
    Stands part seen start → text ≡ seen ++ [] → MayEnd part × IsCsv text
ends_well (Mark count) text seen start shut wait stands all = (
  tt,
  record {
    cells = [];
    last = seen;
    body = inr (
      all ∙ append-nil seen,
      λ rest same.
          no_mark seen rest (short stands) (sym (all ∙ append-nil seen) ∙ same),
    );
    each = no_cells;
    end = last count stands.0 stands.1;
  },
)
  where
    short : Stands (Mark count) seen start → length seen < 3
    short marks = rw (marks.1) (omega (arith, marks.0, length-take count mark))

    last : (count : ℕ) → count < 3 → seen ≡ take count mark → IsCell seen
    last zero few same = inl (rw same (All-nil IsPlain))
    last (suc count) few same =
        inl (mark_begins (suc count) seen few (λ none. omega (arith, none)) same).0
ends_well Start text seen start shut wait stands all = (tt, in_csv Start text seen start shut wait stands all)
ends_well Plain text seen start shut wait stands all = (tt, in_csv Plain text seen start shut wait stands all)
ends_well Quote text seen start shut wait stands all = (tt, in_csv Quote text seen start shut wait stands all)
ends_well Quoted text seen start shut wait stands all = absurd (shut refl)
ends_well Return text seen start shut wait stands all = absurd (wait refl)
ends_well End text seen start shut wait stands all = absurd stands.begins

module _ {R : Type 0} (remaining : R → Option (List ℕ)) (text : List ℕ) (old new : WholeRows R)
    (has : HasRead remaining text old) (none : old.refused ≡ None) (end : IsAtEnd (remaining old.input)) where
  no_left : (left : List ℕ) → remaining old.input ≡ Some left → left ≡ []
  no_left left same = rw same at end

  unless_refused : HasRefused text old → ⊥
  unless_refused refused = none_some refused.fault (sym none ∙ refused.found)

  abbrev filled : HasScanned remaining text old old.filled → List ℕ
  filled now = now.gone ++ take old.filled old.text.items

  whole_text : (now : HasScanned remaining text old old.filled) → text ≡ filled now ++ []
  whole_text now = now.read.text_is ∙ ap (λ xs. filled now ++ xs) (no_left now.left now.read.input)

  -- a quote isn't closed
  pub quote_open : (expected : List ℕ) → old.part ≡ Quoted → expected ≡ codes "a closing `\"`" →
      ((gone body : List ℕ) → AreGone old gone → old.cell ≤ length old.text.items →
      IsBody (gone ++ take old.cell old.text.items) body → RefusesAfter new body expected) → HasRefused text new
  quote_open expected part what refuse = elim has [
    | inl now ↦ go now (rw part at now.stands)
    | inr (inl ended) ↦ absurd (rw part at ended.part)
    | inr (inr refused) ↦ absurd (unless_refused refused)
  ]
    where
      go : (now : HasScanned remaining text old old.filled) →
          InCell Quoted (filled now) (length now.gone + old.cell) → HasRefused text new
      go now cell =
          let size : length (filled now) ≡ length now.gone + old.filled =
          length-append now.gone (take old.filled old.text.items)
          ∙ ap (λ n. length now.gone + n) (length-take-le old.filled old.text.items now.read.inside) in
          let inside : old.cell ≤ old.filled = omega (arith, cell.start_is, size) in
          let cut : take (length now.gone + old.cell) (filled now) ≡ now.gone ++ take old.cell old.text.items =
          take_past now.gone (take old.filled old.text.items) old.cell
          ∙ ap (λ xs. now.gone ++ xs) (take-take old.cell old.filled old.text.items inside) in
          let refuses = refuse now.gone cell.cells now.read.gone_are (omega (arith, inside, now.read.inside))
          (rw cut at (body_cut (filled now) cell.cells cell.cell (length now.gone + old.cell) cell.body
          cell.start_is)) in
          record {
            fault = refuses.fault;
            found = refuses.found;
            is = record {
              cells = cell.cells;
              cell = cell.cell;
              rest = [];
              place = 0;
              body = body_whole text (filled now) (cell.cells ++ cell.cell) [] cell.body (whole_text now);
              each = cell.each;
              refuses = inl (cell.begins, refl, refuses.expected_is ∙ what);
              line_is = rw (append-nil cell.cells) (refuses.line_is);
              column_is = rw (append-nil cell.cells) (refuses.column_is);
            };
          }

  -- no line feed follows a carriage return
  pub feed_missing : (expected : List ℕ) → old.part ≡ Return →
      expected ≡ codes "a line feed after a carriage return" →
      ((gone body : List ℕ) → AreGone old gone → old.filled ≤ length old.text.items →
      IsBody (gone ++ take old.filled old.text.items) body → RefusesAfter new body expected) → HasRefused text new
  feed_missing expected part what refuse = elim has [
    | inl now ↦ go now (rw part at now.stands)
    | inr (inl ended) ↦ absurd (rw part at ended.part)
    | inr (inr refused) ↦ absurd (unless_refused refused)
  ]
    where
      go : (now : HasScanned remaining text old old.filled) →
          InCell Return (filled now) (length now.gone + old.cell) → HasRefused text new
      go now cell =
          let cell_all : take (length cell.cell) cell.cell ≡ cell.cell =
          take_all (length cell.cell) cell.cell (omega arith) in
          let body = body_whole (filled now) (filled now) (cell.cells ++ cell.cell) [] cell.body
          (sym (append-nil (filled now))) in
          let refuses = refuse now.gone (cell.cells ++ cell.cell) now.read.gone_are now.read.inside
          (rw (append-nil (cell.cells ++ cell.cell)) at body) in
          record {
            fault = refuses.fault;
            found = refuses.found;
            is = record {
              cells = cell.cells;
              cell = cell.cell;
              rest = [];
              place = length cell.cell;
              body = body_whole text (filled now) (cell.cells ++ cell.cell) [] cell.body (whole_text now);
              each = cell.each;
              refuses = inr (cell.begins, refl, refuses.expected_is ∙ what);
              line_is = rw cell_all (refuses.line_is);
              column_is = rw cell_all (refuses.column_is);
            };
          }

  -- all cells have ended
  pub text_ends : old.part ≢ Quoted → old.part ≢ Return → LeavesText old new → new.whole ≡ old.filled →
      new.part ≡ old.part → new.refused ≡ old.refused → HasEnded remaining text new new.filled
  text_ends shut wait leaves whole part refused = elim has [
    | inl now ↦
        let well = ends_well old.part text (filled now) _ shut wait now.stands (whole_text now) in
        ended (now.read.input ∙ ap Some (no_left now.left now.read.input)) now.read.inside
        (omega (arith, now.given, now.whole)) well.0 well.1
    | inr (inl was) ↦ ended was.input was.inside (omega (arith, was.given, was.whole)) was.part was.is_csv
    | inr (inr was) ↦ absurd (unless_refused was)
  ]
    where
      ended : remaining old.input ≡ Some [] → old.filled ≤ length old.text.items → old.given ≤ old.filled →
          MayEnd old.part → IsCsv text → HasEnded remaining text new new.filled
      ended input inside given may csv = record {
        input = rw (leaves.input) input;
        inside = rw (leaves.filled, leaves.text) inside;
        scanned = refl;
        whole = whole ∙ sym leaves.filled;
        given = rw (leaves.given, whole) given;
        none = refused ∙ none;
        part = rw part may;
        is_csv = csv;
      }

-- no byte is at hand, and none is left
pub nothing_more : {R : Type 0} (remaining : R → Option (List ℕ)) (text : List ℕ) (rows : WholeRows R) (count : ℕ) →
    HasReadTo remaining text rows count → rows.filled ≡ 0 → rows.refused ≡ None → IsAtEnd (remaining rows.input) →
    IsCsv text
nothing_more remaining text rows count has zero_left none end = elim has [
  | inl now ↦ go now
  | inr (inl ended) ↦ ended.is_csv
  | inr (inr refused) ↦ absurd (none_some refused.fault (sym none ∙ refused.found))
]
  where
    in_gone : (gone : List ℕ) → text ≡ gone ++ [] → BeginsRow gone → IsCsv text
    in_gone gone all (inl empty) = record {
      cells = [];
      last = [];
      body = inr (
        all ∙ append-nil gone ∙ empty,
        λ rest same.
            no_mark [] rest (omega arith) (sym (all ∙ append-nil gone ∙ empty) ∙ same),
      );
      each = no_cells;
      end = inl (All-nil IsPlain);
    }
    in_gone gone all (inr row) = record {
      cells = row.cells ++ (row.last ++ row.end);
      last = [];
      body = body_whole text gone (row.cells ++ (row.last ++ row.end)) [] row.body all;
      each = one_row row.cells row.last row.end row.each row.last_is row.end_is;
      end = inl (All-nil IsPlain);
    }

    go : HasScanned remaining text rows count → IsCsv text
    go now =
        let left : now.left ≡ [] = rw now.read.input at end in
        let all = now.read.text_is in
        in_gone now.gone (all ∙ ap (λ n. (now.gone ++ take n rows.text.items) ++ now.left) zero_left
        ∙ ap (λ xs. xs ++ now.left) (append-nil now.gone) ∙ ap (λ xs. now.gone ++ xs) left) now.read.gone_are.begins
