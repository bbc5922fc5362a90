-- No replies stand before the run, and no Vobs.
use Rattle.std.proofs.Common.{◌≡◌, [], ◌++◌, ap, ◌∙◌}
use Rattle.vob_run.specs.Run.{lists}
use Rattle.vob_lines.proofs.session.answer.Goals as goal

pub returns-clause-ok : goal.returns-clause-ok
returns-clause-ok c =
    let run = c.in_ok-run_usize.ensures.ok in
    let fresh : lists c.new-vobs.result.items ≡ [] = ap lists c.new-vobs.ensures.items in
    let replies : c.run_usize.new.replies.items ≡ run.0 =
    run.1 ∙ ap (λ xs. xs ++ run.0) c.new-replies.ensures.items in
    (lists c.run_usize.new.vobs.items, rw replies (rw fresh at run.2))
