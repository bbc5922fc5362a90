-- The commands so far are a run, and there is room for the other replies.
use Rattle.std.proofs.Common.{◌≤◌, ◌+◌, length, vec_len, vec_capacity}
use Rattle.vob_run.specs.Answer.{usize_answer_of}
use Rattle.vob_run.specs.Commands.{usize_call_of}
use Rattle.vob_run.specs.Run.{lists}
use Rattle.vob_run.proofs.RunLemmas.{HasRun}
use Rattle.vob_run.proofs.run.run_usize.Given as goal

abbrev pub invariant-loop-command : goal.invariant-loop-command
invariant-loop-command l =
    HasRun usize_call_of usize_answer_of 64
    l.commands (lists l.fn.vobs.items) l.fn.replies.items l.command-index l.replies.items
    (lists l.vobs.items)
    × (vec_len l.replies + length l.commands ≤ vec_capacity l.replies + l.command-index)
