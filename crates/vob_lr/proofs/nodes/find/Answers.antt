-- A search by halves finds where the number stands, or that it is nowhere.
use Rattle.vob_lr.proofs.SetLemmas.{found_at, found_nowhere}
use Rattle.vob_lr.proofs.nodes.find.Goals as goal

pub returns-in-Ok-clause-some : goal.returns-in-Ok-clause-some
returns-in-Ok-clause-some c =
    found_at c.args.list.now c.args.number c.requires c.in-Ok.place c.in-Ok.ensures.position

pub returns-in-Err-clause-none : goal.returns-in-Err-clause-none
returns-in-Err-clause-none c =
    found_nowhere c.args.list.now c.args.number c.requires c.in-Err.field-0 c.in-Err.ensures.position
