-- The commands so far are a run, and there is room for the other replies.
use Rattle.std.proofs.Common.{◌≤◌, ◌+◌, length, vec_len, vec_capacity}
use Rattle.vob_run.specs.Answer.{answer_of}
use Rattle.vob_run.specs.Commands.{call_of}
use Rattle.vob_run.specs.Run.{lists}
use Rattle.vob_run.proofs.RunLemmas.{HasRun}
use Rattle.vob_run.proofs.run.run.Given as goal

abbrev pub invariant-loop-command : goal.invariant-loop-command
invariant-loop-command g l =
    HasRun (call_of g.T.BitBlock.number) (answer_of g.T.BitBlock.number) g.T.BitBlock.BITS
    l.commands (lists l.fn.vobs.items) l.fn.replies.items l.command-index l.replies.items
    (lists l.vobs.items)
    × (vec_len l.replies + length l.commands ≤ vec_capacity l.replies + l.command-index)
