use Rattle.std.proofs.Common.{map, take, ◌++◌}
use Rattle.vob_run.specs.Answer.{usize_answer_of}
use Rattle.vob_lines.specs.Conversation.{lines_for}
use Rattle.vob_lines.specs.Written.{AppendsBut}
use Rattle.vob_lines.proofs.text.add_replies.Given as goal

-- a line was added for each reply so far
abbrev pub invariant-loop-reply : goal.invariant-loop-reply
invariant-loop-reply g l =
    let text = lines_for (map usize_answer_of (take l.reply-index l.replies)) in
    AppendsBut (g.W.Write.contents l.fn.output) (g.W.Write.contents l.output)
    (l.fn.piece ++ text) l.piece
