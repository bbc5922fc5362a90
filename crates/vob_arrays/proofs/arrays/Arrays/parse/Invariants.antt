-- What the parser did is what each table says of which these are the arrays.
use Rattle.std.proofs.Common.{◌≤◌, length}
use Rattle.vob_lr.specs.Parses.{IsReached}
use Rattle.vob_lr.specs.Tables.{TableView}
use Rattle.vob_arrays.specs.Arrays.{IsTableOf}
use Rattle.vob_arrays.specs.Drives.{left_over}
use Rattle.vob_arrays.proofs.arrays.Arrays.parse.Given as goal

abbrev pub invariant-steps : goal.invariant-steps
invariant-steps l = record {
  reached : (table : TableView) → IsTableOf table l.self → IsReached table l.tokens l.run;
  within : length l.run.reduced ≤ l.most;
}

abbrev pub decreases-steps : goal.decreases-steps
decreases-steps l = left_over (length l.tokens) l.most l.run
