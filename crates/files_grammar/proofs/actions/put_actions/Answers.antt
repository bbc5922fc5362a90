-- The shift stands before the reductions.
use Rattle.files_grammar.specs.ActionText.{others}
use Rattle.files_grammar.proofs.TextLemmas.{before}
use Rattle.files_grammar.proofs.actions.put_actions.Goals as goal

pub returns : goal.returns
returns g c =
    rw c.in-Some.is
    (before _ _ _ (others c.args.between.now c.args.rules.now) c.in_ok-put_shift.ensures c.in_ok-put_others.ensures)
