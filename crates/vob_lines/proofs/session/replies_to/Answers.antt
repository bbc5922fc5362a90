-- All lines read as the commands, for whose replies memory may be refused.
use Rattle.std.proofs.Common.{map, refl}
use Rattle.std.proofs.lemmas.Result.{IfOk-weaker}
use Rattle.vob_run.specs.Answer.{usize_answer_of}
use Rattle.vob_run.specs.Commands.{usize_call_of}
use Rattle.vob_lines.specs.Cuts.{lines_of}
use Rattle.vob_lines.proofs.SessionLemmas.{ends_at_replies}
use Rattle.vob_lines.proofs.session.replies_to.Goals as goal

pub returns-clause-ok : goal.returns-clause-ok
returns-clause-ok c =
    IfOk-weaker c.answer.result _ _
    (λ replies ran. record {
      calls = map usize_call_of c.in_ok-commands.commands.items;
      read = c.in_ok-commands.ensures.ok;
      answers = map usize_answer_of replies.items;
      after = ran.0;
      run = rw c.deref.ensures.value at ran.1;
      text = refl;
    }) c.answer.ensures.ok

pub returns-clause-err : goal.returns-clause-err
returns-clause-err c =
    ends_at_replies c.answer.result (lines_of c.args.text.now) usize_call_of
    c.in_ok-commands.commands.items c.in_ok-commands.ensures.ok c.answer.ensures.err
    (rw c.deref.ensures.value at c.answer.ensures.nothing)
