-- The text ends, or rows are given.
use Rattle.std.proofs.Common.{◌≡◌, false, rules}
use Rattle.files_csv.proofs.whole.WholeRowsRead.read.Goals as goal

pub returns-then-not-branch-clause-is_csv : goal.returns-then-not-branch-clause-is_csv
returns-then-not-branch-clause-is_csv g c = λ none room text has.
    let no : c.in_ok-fill.field-0 ≡ false = search rules in c.in_ok-fill.ensures.is_csv no text has

pub returns-clause-progress : goal.returns-clause-progress
returns-clause-progress g c = λ text has. c.give.ensures.progress text (c.fill.ensures.progress text has)
