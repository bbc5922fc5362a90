-- What waits at the end is written too.
use Rattle.vob_lines.proofs.WrittenLemmas.{puts_last, puts_bad}
use Rattle.vob_lines.proofs.session.write_replies.Goals as goal

pub returns-in_err-add_replies : goal.returns-in_err-add_replies
returns-in_err-add_replies g c =
    puts_bad _ _ _ _ _ c.from_residual.ensures.0
    (rw c.new-piece.ensures at c.in_err-add_replies.ensures)

pub returns : goal.returns
returns g c =
    puts_last c.write_out.result _ _ _ _ _
    (rw c.new-piece.ensures at c.in_ok-add_replies.ensures) c.write_out.ensures.puts
