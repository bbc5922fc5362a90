use Rattle.std.proofs.Common.{◌+◌, ◌≤◌, length, map}
use Rattle.vob_run.specs.Commands.{usize_call_of}
use Rattle.vob_lines.specs.Cuts.{lines_of}
use Rattle.vob_lines.proofs.SessionLemmas.{ReadsSoFar}
use Rattle.vob_lines.proofs.session.read_commands.Given as goal

-- the lines so far read as the commands
abbrev pub invariant-loop-rest : goal.invariant-loop-rest
invariant-loop-rest l = record {
  lines : ReadsSoFar (lines_of l.text) (lines_of l.rest) l.number
      (map usize_call_of l.commands.items);
  bytes : l.number + length l.rest ≤ length l.text;
}

abbrev pub decreases-loop-rest : goal.decreases-loop-rest
decreases-loop-rest l = length l.rest
