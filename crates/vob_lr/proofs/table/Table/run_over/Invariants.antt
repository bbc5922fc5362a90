-- What the parser did is what the table says, and the last token was read just now.
use Rattle.std.proofs.Common.{◌+◌, ◌-◌, ◌≤◌, length}
use Rattle.vob_lr.specs.Expected.{HasRead}
use Rattle.vob_lr.specs.Parses.{IsReached}
use Rattle.vob_lr.proofs.table.Table.run_over.Given as goal

abbrev pub invariant-steps : goal.invariant-steps
invariant-steps l = record {
  reached : IsReached l.self l.tokens l.run;
  within : length l.run.reduced ≤ l.reductions;
  read : length l.tokens ≤ l.run.read → HasRead l.self l.tokens l.run;
}

abbrev pub decreases-steps : goal.decreases-steps
decreases-steps l = (length l.tokens - l.run.read) + (l.reductions - length l.run.reduced)
