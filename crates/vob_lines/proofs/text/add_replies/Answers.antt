-- Each line stands behind those before it.
use Rattle.std.proofs.Common.{map, ap, sym, ◌∙◌, append-nil, arith}
use Rattle.std.specs.List.{flat_map}
use Rattle.vob_run.specs.Answer.{usize_answer_of}
use Rattle.vob_lines.specs.Texts.{line_of, text_of}
use Rattle.vob_lines.proofs.WrittenLemmas.{loop_next, loop_failed, flat_map-adds}
use Rattle.vob_lines.proofs.text.add_replies.Goals as goal

pub returns-in_err-add_line : goal.returns-in_err-add_line
returns-in_err-add_line g c =
    loop_failed (λ xs. flat_map (λ answer. line_of (text_of answer)) (map usize_answer_of xs))
    (flat_map-adds (λ answer. line_of (text_of answer)) usize_answer_of) _ _ _ _ _
    (line_of (text_of (usize_answer_of c.reply-item.result))) c.args.replies.now
    c.loop-reply.reply-index c.reply-item.result (omega arith)
    (append-nil _ ∙ ap (λ x. line_of (text_of (usize_answer_of x))) (sym c.reply-item.is))
    c.from_residual.result _ c.from_residual.ensures.0 c.loop-reply.invariant
    c.in_err-add_line.ensures

pub loop-reply-preserved : goal.loop-reply-preserved
loop-reply-preserved g c =
    loop_next (λ xs. flat_map (λ answer. line_of (text_of answer)) (map usize_answer_of xs))
    (flat_map-adds (λ answer. line_of (text_of answer)) usize_answer_of) _ _ _ _ _
    (line_of (text_of (usize_answer_of c.reply-item.result))) c.args.replies.now
    c.loop-reply.reply-index c.reply-item.result (omega arith)
    (append-nil _ ∙ ap (λ x. line_of (text_of (usize_answer_of x))) (sym c.reply-item.is))
    _ c.loop-reply.invariant c.in_ok-add_line.ensures
