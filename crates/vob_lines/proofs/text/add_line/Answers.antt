-- The line feed stands behind the text.
use Rattle.std.proofs.Common.{refl, [], ◌∷◌}
use Rattle.vob_run.specs.Answer.{usize_answer_of}
use Rattle.vob_lines.specs.Texts.{text_of}
use Rattle.vob_lines.proofs.WrittenLemmas.{puts_next, puts_failed}
use Rattle.vob_lines.proofs.text.add_line.Goals as goal

pub returns-in_err-add_reply : goal.returns-in_err-add_reply
returns-in_err-add_reply g c =
    puts_failed _ _ c.args.piece.now (text_of (usize_answer_of c.args.reply.now)) (10 ∷ [])
    c.from_residual.result _ _ refl c.from_residual.ensures.0 c.in_err-add_reply.ensures

pub returns : goal.returns
returns g c =
    puts_next _ _ c.args.piece.now (text_of (usize_answer_of c.args.reply.now)) (10 ∷ [])
    c.add.result _ _ _ c.in_ok-add_reply.ensures c.add.ensures
