-- No byte is lost.
use Rattle.std.specs.Prelude.{ℕ, List}
use Rattle.std.specs.Io.KnownBytes.{Keeps}
use Rattle.files_csv.specs.Progress.{HasRead}
use Rattle.files_csv.specs.Whole.{IsFresh, unread}
use Rattle.files_csv.proofs.whole.WholeRows.fill.Given as goal

abbrev pub invariant-loop : goal.invariant-loop
invariant-loop g l = record {
  fresh : IsFresh l.self;
  unread : Keeps (unread g.R.Read.remaining l.fn.self) (unread g.R.Read.remaining l.self);
  progress : (text : List ℕ) → HasRead g.R.Read.remaining text l.fn.self → HasRead g.R.Read.remaining text l.self;
}
