-- One list more.
use Rattle.std.proofs.lemmas.List.{take_more}
use Rattle.files_flow.proofs.ProblemLemmas.{added_more}
use Rattle.files_flow.proofs.problem.add_to_each.Goals as goal

pub loop-list-preserved : goal.loop-list-preserved
loop-list-preserved c =
    rw (take_more c.args.some.now c.loop-list.list-index 0 c.loop-list-test.true)
    (added_more _ _ _ _ _ _ c.loop-list.invariant c.in_ok-add_to.ensures)
