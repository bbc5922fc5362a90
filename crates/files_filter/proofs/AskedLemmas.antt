-- One more row is asked, or a row is refused.
use Rattle.std.specs.Prelude.{All}
use Rattle.std.proofs.Common.{◌≡◌, ◌≢◌, ◌∙◌, ℕ, List, [], ◌∷◌, ◌++◌, Option, Some, None, ap, arith, refl, subst, sym}
use Rattle.std.proofs.lemmas.List.{append-nil}
use Rattle.csv.specs.Records.{fields_of}
use Rattle.files_filter.specs.Blocks.{HasAsked}
use Rattle.csv.specs.declared.parser.Config.{Config}
use Rattle.files_filter.specs.Reading.{AreAllRows, AreFirstRows, BeginWith, Cells, Consist, Delimited, HasRead, config_of}
use Rattle.files_filter.specs.Refusals.{RefusesBy}
use Rattle.files_filter.specs.RowFaults.{AreRefused, below_header, header_of}
use Rattle.files_filter.specs.Watching.{IsWatched}
use Rattle.files_filter.specs.declared.comparing.Test.{Test}
use Rattle.files_filter.specs.declared.fault.FilterFault.{FilterFault}
use Rattle.files_filter.specs.declared.questions.Questions.{Questions}
use Rattle.files_filter.specs.declared.table.Table.{Table}

header_more : (rows more : List Cells) → rows ≢ [] → header_of (rows ++ more) ≡ header_of rows
header_more [] more some = absurd (some refl)
header_more (header ∷ rows) more some = refl

below_more : (rows more : List Cells) → rows ≢ [] → below_header (rows ++ more) ≡ below_header rows ++ more
below_more [] more some = absurd (some refl)
below_more (header ∷ rows) more some = refl

pub header_and_below : (rows : List Cells) → rows ≢ [] → header_of rows ∷ below_header rows ≡ rows
header_and_below [] some = absurd (some refl)
header_and_below (header ∷ rows) some = refl

some_more : (rows : List Cells) (cells : Cells) → rows ++ cells ∷ [] ≢ []
some_more [] cells same = cc same
some_more (header ∷ rows) cells same = cc same

pub asked_more : {R : Type 0} (remaining : R → Option (List ℕ)) (text : Delimited) (rows : List Cells)
    (old new : Table R) (before after : Questions) (cells : Cells) → HasAsked remaining text rows old before →
    HasRead remaining text (rows ++ cells ∷ []) new → new.header ≡ old.header → after.tests ≡ before.tests →
    (All (IsWatched (fields_of new.header) (below_header rows) before.tests.items) before.guards.items →
    All (IsWatched (fields_of new.header) (below_header rows ++ cells ∷ []) before.tests.items) after.guards.items) →
    HasAsked remaining text (rows ++ cells ∷ []) new after
asked_more remaining text rows old new before after cells has read same tests sees =
    let header : header_of rows ≡ fields_of new.header = has.header ∙ ap fields_of (sym same) in
    let watched = sees (subst (λ h. All (IsWatched h (below_header rows) before.tests.items) before.guards.items) header
    has.watched) in record {
      read = read;
      some = some_more rows cells;
      header = header_more rows (cells ∷ []) has.some ∙ header;
      watched = rw (header_more rows (cells ∷ []) has.some, below_more rows (cells ∷ []) has.some, header, tests) watched;
    }

-- what follows for guards that have seen the rows below a header
pub watched_by : {R : Type 0} (remaining : R → Option (List ℕ)) (text : Delimited) (rows : List Cells)
    (old new : Table R) (questions : Questions) → HasAsked remaining text rows old questions →
    new.header ≡ old.header → (P : Cells → Type 0) →
    (All (IsWatched (fields_of new.header) (below_header rows) questions.tests.items) questions.guards.items →
    P (fields_of new.header)) → P (header_of rows)
watched_by remaining text rows old new questions has same P so =
    let header : header_of rows ≡ fields_of new.header = has.header ∙ ap fields_of (sym same) in
    subst P (sym header)
    (so (subst (λ h. All (IsWatched h (below_header rows) questions.tests.items) questions.guards.items) header has.watched))

-- the row after those that were read is refused
pub refused_next : (text : Delimited) (rows : List Cells) (cells : Cells) (tests : List Test)
    (fault : FilterFault) → AreFirstRows text (rows ++ cells ∷ []) →
    RefusesBy text (header_of rows) (below_header rows ++ cells ∷ []) tests fault → AreRefused text rows tests fault
refused_next text rows cells tests fault first refuses = record {
  late = cells ∷ [];
  few = omega arith;
  first = first;
  refuses = refuses;
}

all_first : (config : Config) (known : Option (List ℕ)) (rows : List Cells) → Consist config known rows →
    BeginWith config known rows
all_first config None rows all = tt
all_first config (Some text) rows all = (all.0, all.1, all.2)

-- all rows are refused at the end
pub refused_all : (text : Delimited) (rows : List Cells) (tests : List Test) (fault : FilterFault) →
    rows ≢ [] → AreAllRows text rows →
    (AreAllRows text (header_of rows ∷ below_header rows) →
    RefusesBy text (header_of rows) (below_header rows) tests fault) → AreRefused text rows tests fault
refused_all text rows tests fault some all refuses = record {
  late = [];
  few = omega arith;
  first = rw (append-nil rows) (all_first (config_of text.delimiter) text.text rows all);
  refuses = rw (append-nil (below_header rows)) (refuses (rw (header_and_below rows some) all));
}
