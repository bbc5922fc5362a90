-- No command is a run of no replies, and each reply goes on from the run so far.
use Rattle.std.proofs.Common.{arith, [], refl, sym, ◌∙◌}
use Rattle.std.proofs.lemmas.List.{append-nil}
use Rattle.vob_run.specs.Answer.{usize_answer_of}
use Rattle.vob_run.specs.Commands.{usize_call_of}
use Rattle.vob_run.proofs.RunLemmas.{HasRun-more}
use Rattle.vob_run.proofs.run.run_usize.Goals as goal

pub loop-command-init : goal.loop-command-init
loop-command-init c =
    let reserve = c.in_ok-reserve.ensures in
    (([], reserve.items ∙ sym (append-nil _), refl), omega (arith, reserve.ok))

pub loop-command-preserved : goal.loop-command-preserved
loop-command-preserved c =
    let ran = c.loop-command.invariant in
    let reply = c.run_one_usize-reply in
    let command = c.command-item in
    let pushed = c.push_reserved.ensures in (
      HasRun-more usize_call_of usize_answer_of 64
          c.args.commands.now _ c.args.replies.now.items c.loop-command.command-index _ _ _ _
          command.result reply.result ran.0 c.loop-command-test.true command.is pushed.items
          reply.ensures,
      omega (arith, ran.1, pushed.len, pushed.capacity),
    )
