-- A text of CSV, read byte by byte: at most one byte is the first that is refused.
use Rattle.std.specs.Prelude.{◌==◌, codes, flat_map, if◌then◌else◌}
use Rattle.std.proofs.Common.{◌≡◌, ◌≢◌, ◌⊎◌, ◌∙◌, ◌++◌, ◌∷◌, [], ℕ, All, Bool, true, false, List, None, Option, Some, append_assoc, ap, inl, inr, length, refl, subst, sym, take, arith}
use Rattle.std.proofs.lemmas.Bool.{ne_eqb}
use Rattle.std.proofs.lemmas.List.{append-nil, append_cancel_left, take_all}
use Rattle.std.proofs.lemmas.List.Elements.{All-head, All-tail}
use Rattle.files_csv.specs.Refused.{CantEnd, CantFollow, IsRefused, RefusesCell, column_after, line_after}
use Rattle.files_csv.specs.Rows.{AreCells, IsBody, IsCell, IsCsv, IsPlain, IsRowEnd, in_quotes, mark, opened, quoted}
use Rattle.files_csv.specs.Rows.AreCells.{comma, none, row}
use Rattle.files_csv.specs.declared.quotes.Part.{Part}
use Rattle.files_csv.specs.declared.quotes.Part.TheVariants.{End, Mark, Plain, Quote, Quoted, Return, Start}

abbrev Turn : Type 0
Turn = Part ⊎ List ℕ

-- the place that is refused, by the bytes before it, and what was expected there
abbrev Found : Type 0
Found = Option (List ℕ × List ℕ)

-- what the byte after a cell stands in
abbrev after_cell : ℕ → Turn → Turn
after_cell byte other =
    if byte == 10 then inl Start else (if byte == 13 then inl Return else (if byte == 44 then inl Start else other))

-- what the next byte stands in, or what was expected in its place
abbrev step : Part → ℕ → Turn
step Start byte = if byte == 34 then inl Quoted else after_cell byte (inl Plain)
step Plain byte = if byte == 34 then inr (codes "no `\"` in a cell without quotes") else after_cell byte (inl Plain)
step Quoted byte = if byte == 34 then inl Quote else inl Quoted
step Quote byte =
    if byte == 34 then inl Quoted
    else after_cell byte (inr (codes "a comma or the end of the line after a closing `\"`"))
step Return byte = if byte == 10 then inl Start else inr (codes "a line feed after a carriage return")
step (Mark count) byte = inl Start
step End byte = inl Start

abbrev at_end : Part → (cells cell : List ℕ) → Found
at_end Quoted cells cell = Some (cells ++ [], codes "a closing `\"`")
at_end Return cells cell = Some (cells ++ cell, codes "a line feed after a carriage return")
at_end Start cells cell = None
at_end Plain cells cell = None
at_end Quote cells cell = None
at_end (Mark count) cells cell = None
at_end End cells cell = None

abbrev next : (cells cell : List ℕ) → ℕ → (Part → List ℕ → List ℕ → Found) → Turn → Found
next cells cell byte go (inr expected) = Some (cells ++ cell, expected)
next cells cell byte go (inl Start) = go Start (cells ++ (cell ++ byte ∷ [])) []
next cells cell byte go (inl Plain) = go Plain cells (cell ++ byte ∷ [])
next cells cell byte go (inl Quoted) = go Quoted cells (cell ++ byte ∷ [])
next cells cell byte go (inl Quote) = go Quote cells (cell ++ byte ∷ [])
next cells cell byte go (inl Return) = go Return cells (cell ++ byte ∷ [])
next cells cell byte go (inl (Mark count)) = None
next cells cell byte go (inl End) = None

-- the first refused place of what comes after some cells and the beginning of one
abbrev find : Part → (cells cell rest : List ℕ) → Found
find part cells cell [] = at_end part cells cell
find part cells cell (byte ∷ rest) = next cells cell byte (λ p xs c. find p xs c rest) (step part byte)

one_step : (part : Part) (cells cell rest : List ℕ) (byte : ℕ) (turn : Turn) → step part byte ≡ turn →
    find part cells cell (byte ∷ rest) ≡ next cells cell byte (λ p xs c. find p xs c rest) turn
one_step part cells cell rest byte turn same = ap (next cells cell byte (λ p xs c. find p xs c rest)) same

-- a plain byte
others : (byte : ℕ) (other : Turn) → IsPlain byte → after_cell byte other ≡ other
others byte other plain =
    let feed : (byte == 10) ≡ false = ne_eqb byte 10 plain.3 in
    let back : (byte == 13) ≡ false = ne_eqb byte 13 plain.2 in
    let part : (byte == 44) ≡ false = ne_eqb byte 44 plain.1 in
    rw (feed, back, part) refl

no_quote : (byte : ℕ) → IsPlain byte → (byte == 34) ≡ false
no_quote byte plain = ne_eqb byte 34 plain.0

step_start : (byte : ℕ) → IsPlain byte → step Start byte ≡ inl Plain
step_start byte plain = rw (no_quote byte plain) (others byte (inl Plain) plain)

step_plain : (byte : ℕ) → IsPlain byte → step Plain byte ≡ inl Plain
step_plain byte plain = rw (no_quote byte plain) (others byte (inl Plain) plain)

plain_run : (cell : List ℕ) → All IsPlain cell → (cells seen rest : List ℕ) →
    find Plain cells seen (cell ++ rest) ≡ find Plain cells (seen ++ cell) rest
plain_run [] plain cells seen rest = ap (λ xs. find Plain cells xs rest) (sym (append-nil seen))
plain_run (byte ∷ cell) plain cells seen rest =
    one_step Plain cells seen (cell ++ rest) byte (inl Plain) (step_plain byte (All-head IsPlain byte cell plain))
    ∙ plain_run cell (All-tail IsPlain byte cell plain) cells (seen ++ byte ∷ []) rest
    ∙ ap (λ xs. find Plain cells xs rest) (append_assoc seen (byte ∷ []) cell)

-- a cell without quotes
plain_cell : (cell : List ℕ) → All IsPlain cell → cell ≢ [] → (cells rest : List ℕ) →
    find Start cells [] (cell ++ rest) ≡ find Plain cells cell rest
plain_cell [] plain some cells rest = absurd (some refl)
plain_cell (byte ∷ cell) plain some cells rest =
    one_step Start cells [] (cell ++ rest) byte (inl Plain) (step_start byte (All-head IsPlain byte cell plain))
    ∙ plain_run cell (All-tail IsPlain byte cell plain) cells (byte ∷ []) rest

-- a byte in quotes
one_text : (byte : ℕ) (cells seen rest : List ℕ) →
    find Quoted cells seen (in_quotes byte ++ rest) ≡ find Quoted cells (seen ++ in_quotes byte) rest
one_text byte cells seen rest = go (byte == 34) refl
  where
    go : (is : Bool) → (byte == 34) ≡ is →
        find Quoted cells seen (in_quotes byte ++ rest) ≡ find Quoted cells (seen ++ in_quotes byte) rest
    go true same =
        let twice : in_quotes byte ≡ 34 ∷ 34 ∷ [] = rw same refl in
        ap (λ xs. find Quoted cells seen (xs ++ rest)) twice
        ∙ ap (λ xs. find Quoted cells xs rest) (append_assoc seen (34 ∷ []) (34 ∷ []))
        ∙ ap (λ xs. find Quoted cells (seen ++ xs) rest) (sym twice)
    go false same =
        let once : in_quotes byte ≡ byte ∷ [] = rw same refl in
        let still : step Quoted byte ≡ inl Quoted = rw same refl in
        ap (λ xs. find Quoted cells seen (xs ++ rest)) once
        ∙ one_step Quoted cells seen rest byte (inl Quoted) still
        ∙ ap (λ xs. find Quoted cells (seen ++ xs) rest) (sym once)

text_run : (content cells seen rest : List ℕ) →
    find Quoted cells seen (flat_map in_quotes content ++ rest)
    ≡ find Quoted cells (seen ++ flat_map in_quotes content) rest
text_run [] cells seen rest = ap (λ xs. find Quoted cells xs rest) (sym (append-nil seen))
text_run (byte ∷ content) cells seen rest =
    ap (find Quoted cells seen) (append_assoc (in_quotes byte) (flat_map in_quotes content) rest)
    ∙ one_text byte cells seen (flat_map in_quotes content ++ rest)
    ∙ text_run content cells (seen ++ in_quotes byte) rest
    ∙ ap (λ xs. find Quoted cells xs rest) (append_assoc seen (in_quotes byte) (flat_map in_quotes content))

-- a cell whose quote is open
open_cell : (content cells rest : List ℕ) →
    find Start cells [] (opened content ++ rest) ≡ find Quoted cells (opened content) rest
open_cell content cells rest = text_run content cells (34 ∷ []) rest

-- a cell in quotes
quoted_cell : (content cells rest : List ℕ) →
    find Start cells [] (quoted content ++ rest) ≡ find Quote cells (quoted content) rest
quoted_cell content cells rest =
    ap (find Start cells []) (append_assoc (opened content) (34 ∷ []) rest) ∙ open_cell content cells (34 ∷ rest)

-- after a cell it may end
record Ends (part : Part) : Type 0 where
  comma : step part 44 ≡ inl Start
  feed : step part 10 ≡ inl Start
  back : step part 13 ≡ inl Return
  end : (cells cell : List ℕ) → at_end part cells cell ≡ None

record Runs (cell : List ℕ) : Type 0 where
  part : Part
  ends : Ends part
  runs : (cells rest : List ℕ) → find Start cells [] (cell ++ rest) ≡ find part cells cell rest

cell_run : (cell : List ℕ) → IsCell cell → Runs cell
cell_run [] (inl plain) = record {
  part = Start;
  ends = record { comma = refl; feed = refl; back = refl; end = λ cells cell. refl };
  runs = λ cells rest. refl;
}
cell_run (byte ∷ cell) (inl plain) = record {
  part = Plain;
  ends = record { comma = refl; feed = refl; back = refl; end = λ cells cell. refl };
  runs = plain_cell (byte ∷ cell) plain (λ same.
      let no : length (byte ∷ cell) ≡ 0 = ap length same in omega (arith, no));
}
cell_run cell (inr is) = record {
  part = Quote;
  ends = record { comma = refl; feed = refl; back = refl; end = λ cells cell. refl };
  runs = λ cells rest. rw (is.1) (quoted_cell is.0 cells rest);
}

-- a cell, and a carriage return
return_run : (begun cells rest : List ℕ) → IsCell begun →
    find Start cells [] ((begun ++ 13 ∷ []) ++ rest) ≡ find Return cells (begun ++ 13 ∷ []) rest
return_run begun cells rest is =
    let run = cell_run begun is in
    ap (find Start cells []) (append_assoc begun (13 ∷ []) rest) ∙ run.runs cells (13 ∷ rest)
    ∙ one_step run.part cells begun rest 13 (inl Return) run.ends.back

row_run : (cell end cells rest : List ℕ) → IsCell cell → IsRowEnd end →
    find Start cells [] ((cell ++ end) ++ rest) ≡ find Start (cells ++ (cell ++ end)) [] rest
row_run cell end cells rest is (inl feed) =
    let run = cell_run cell is in
    rw feed (ap (find Start cells []) (append_assoc cell (10 ∷ []) rest) ∙ run.runs cells (10 ∷ rest)
    ∙ one_step run.part cells cell rest 10 (inl Start) run.ends.feed)
row_run cell end cells rest is (inr both) =
    let split : cell ++ (13 ∷ 10 ∷ []) ≡ (cell ++ 13 ∷ []) ++ 10 ∷ [] = sym (append_assoc cell (13 ∷ []) (10 ∷ [])) in
    rw (both, split) (ap (find Start cells []) (append_assoc (cell ++ 13 ∷ []) (10 ∷ []) rest)
    ∙ return_run cell cells (10 ∷ rest) is)

cells_run : {all : List ℕ} → AreCells all → (rest : List ℕ) →
    find Start [] [] (all ++ rest) ≡ find Start all [] rest
cells_run none rest = refl
cells_run (comma cells cell each is) rest =
    let run = cell_run cell is in
    ap (find Start [] []) (append_assoc cells (cell ++ 44 ∷ []) rest) ∙ cells_run each ((cell ++ 44 ∷ []) ++ rest)
    ∙ ap (find Start cells []) (append_assoc cell (44 ∷ []) rest) ∙ run.runs cells (44 ∷ rest)
    ∙ one_step run.part cells cell rest 44 (inl Start) run.ends.comma
cells_run (row cells cell end each is end_is) rest =
    ap (find Start [] []) (append_assoc cells (cell ++ end) rest) ∙ cells_run each ((cell ++ end) ++ rest)
    ∙ row_run cell end cells rest is end_is

-- a byte is found where it is refused
follow_refused : (cells cell rest : List ℕ) (byte : ℕ) (expected : List ℕ) → CantFollow cell byte expected →
    find Start cells [] (cell ++ byte ∷ rest) ≡ Some (cells ++ cell, expected)
follow_refused cells cell rest byte expected (inl plain) =
    let quote : step Plain byte ≡ inr expected = rw (plain.2, plain.3) refl in
    plain_cell cell plain.0 plain.1 cells (byte ∷ rest) ∙ one_step Plain cells cell rest byte (inr expected) quote
follow_refused cells cell rest byte expected (inr (inl shut)) =
    let more : step Quote byte ≡ inr expected =
    rw (no_quote byte shut.1, shut.2) (others byte _ shut.1) in
    rw (shut.0.1) (quoted_cell shut.0.0 cells (byte ∷ rest)
    ∙ one_step Quote cells (quoted shut.0.0) rest byte (inr expected) more)
follow_refused cells cell rest byte expected (inr (inr back)) =
    let none : (byte == 10) ≡ false = ne_eqb byte 10 back.1 in
    let wait : step Return byte ≡ inr expected = rw (none, back.2) refl in
    rw (back.0.2) (return_run back.0.0 cells (byte ∷ rest) back.0.1
    ∙ one_step Return cells (back.0.0 ++ 13 ∷ []) rest byte (inr expected) wait)

end_refused : (cells cell : List ℕ) (place : ℕ) (expected : List ℕ) → CantEnd cell place expected →
    find Start cells [] (cell ++ []) ≡ Some (cells ++ take place cell, expected)
end_refused cells cell place expected (inl shut) = rw (shut.0.1, shut.1, shut.2) (open_cell shut.0.0 cells [])
end_refused cells cell place expected (inr back) =
    let all : take (length cell) cell ≡ cell = take_all (length cell) cell (omega arith) in
    rw (back.1, all, back.2, back.0.2) (return_run back.0.0 cells [] back.0.1)

cell_refused : (cells cell rest : List ℕ) (place : ℕ) (expected : List ℕ) → RefusesCell cell rest place expected →
    find Start cells [] (cell ++ rest) ≡ Some (cells ++ take place cell, expected)
cell_refused cells cell [] place expected refuses = end_refused cells cell place expected refuses
cell_refused cells cell (byte ∷ rest) place expected refuses =
    let all : take (length cell) cell ≡ cell = take_all (length cell) cell (omega arith) in
    rw (refuses.1, all) (follow_refused cells cell rest byte expected refuses.0)

body_once : (text first second : List ℕ) → IsBody text first → IsBody text second → first ≡ second
body_once text first second (inl one) (inl two) = append_cancel_left mark first second (sym one ∙ two)
body_once text first second (inl one) (inr two) = absurd (two.1 first one)
body_once text first second (inr one) (inl two) = absurd (one.1 second two)
body_once text first second (inr one) (inr two) = sym one.0 ∙ two.0

body_run : (text body : List ℕ) (line column : ℕ) (expected : List ℕ) →
    (is : IsRefused text line column expected) → IsBody text body →
    find Start [] [] body ≡ Some (is.cells ++ take is.place is.cell, expected)
body_run text body line column expected is same =
    ap (find Start [] []) (body_once text body ((is.cells ++ is.cell) ++ is.rest) same is.body
    ∙ append_assoc is.cells is.cell is.rest)
    ∙ cells_run is.each (is.cell ++ is.rest) ∙ cell_refused is.cells is.cell is.rest is.place expected is.refuses

abbrev place_of : Found → List ℕ
place_of None = []
place_of (Some found) = found.0

abbrev word_of : Found → List ℕ
word_of None = []
word_of (Some found) = found.1

pub refused-once : (text : List ℕ) (line column : ℕ) (expected : List ℕ) (l c : ℕ) (e : List ℕ) →
    IsRefused text line column expected → IsRefused text l c e → (l ≡ line) × (c ≡ column) × (e ≡ expected)
refused-once text line column expected l c e one two =
    let both = sym (body_run text _ l c e two one.body) ∙ body_run text _ line column expected one one.body in (
      two.line_is ∙ ap (λ found. line_after (place_of found)) both ∙ sym one.line_is,
      two.column_is ∙ ap (λ found. column_after (place_of found)) both ∙ sym one.column_is,
      ap word_of both,
    )

abbrev is_found : Found → Type 0
is_found None = ⊥
is_found (Some found) = Unit {0}

pub csv-not_refused : (text : List ℕ) (line column : ℕ) (expected : List ℕ) → IsCsv text →
    IsRefused text line column expected → ⊥
csv-not_refused text line column expected csv is =
    let run = cell_run csv.last csv.end in
    let none = cells_run csv.each csv.last ∙ ap (find Start csv.cells []) (sym (append-nil csv.last))
    ∙ run.runs csv.cells [] ∙ run.ends.end csv.cells csv.last in
    let some = sym (body_run text (csv.cells ++ csv.last) line column expected is csv.body) ∙ none in
    subst is_found some tt
