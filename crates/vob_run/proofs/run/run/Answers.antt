-- No command is a run of no replies, and each reply goes on from the run so far.
use Rattle.std.proofs.Common.{arith, [], refl, sym, ◌∙◌}
use Rattle.std.proofs.lemmas.List.{append-nil}
use Rattle.vob_run.specs.Answer.{answer_of}
use Rattle.vob_run.specs.Commands.{call_of}
use Rattle.vob_run.proofs.RunLemmas.{HasRun-more}
use Rattle.vob_run.proofs.run.run.Goals as goal

pub loop-command-init : goal.loop-command-init
loop-command-init g c =
    let reserve = c.in_ok-reserve.ensures in
    (([], reserve.items ∙ sym (append-nil _), refl), omega (arith, reserve.ok))

pub loop-command-preserved : goal.loop-command-preserved
loop-command-preserved g c =
    let ran = c.loop-command.invariant in
    let reply = c.run_one-reply in
    let command = c.command-item in
    let pushed = c.push_reserved.ensures in (
      HasRun-more (call_of g.T.BitBlock.number) (answer_of g.T.BitBlock.number) g.T.BitBlock.BITS
          c.args.commands.now _ c.args.replies.now.items c.loop-command.command-index _ _ _ _
          command.result reply.result ran.0 c.loop-command-test.true command.is pushed.items
          reply.ensures,
      omega (arith, ran.1, pushed.len, pushed.capacity),
    )
