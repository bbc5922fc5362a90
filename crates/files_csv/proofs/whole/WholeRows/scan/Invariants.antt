-- What was read stays, and the bytes up to the next one are scanned.
use Rattle.std.specs.Prelude.{◌≡◌, ◌⊎◌, ℕ, List, None}
use Rattle.files_csv.specs.Progress.{HasEnded, HasReadTo, HasScanned}
use Rattle.files_csv.specs.Whole.{LeavesText}
use Rattle.files_csv.proofs.whole.WholeRows.scan.Given as goal

abbrev pub invariant-loop-at : goal.invariant-loop-at
invariant-loop-at g l = record {
  same : LeavesText l.fn.self l.self;
  progress : (text : List ℕ) → l.fn.self.refused ≡ None →
      HasReadTo g.R.Read.remaining text l.fn.self l.fn.from →
      HasScanned g.R.Read.remaining text l.self l.at ⊎ HasEnded g.R.Read.remaining text l.self l.at;
}
