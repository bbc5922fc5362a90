-- The terminals so far.
use Rattle.std.proofs.Common.{◌≡◌, length}
use Rattle.vob_lr.specs.Expected.{Acts}
use Rattle.vob_lr.proofs.ExpectedLemmas.{TellBelow}
use Rattle.vob_lr.proofs.table.Table.acted.Given as goal

abbrev pub invariant-loop-terminal : goal.invariant-loop-terminal
invariant-loop-terminal l = record {
  long : length l.set.bits ≡ l.terminals;
  tell : TellBelow (Acts l.self l.state) l.set.bits l.terminal;
}
