-- A set bit is of its own rank.
use Rattle.std.proofs.Common.{refl}
use Rattle.vob_laws.proofs.sets.select_undoes_rank.Goals as goal

pub returns : goal.returns
returns c = λ bits i answer there selected.
    (selected.some i).1 record { there = there; below = refl }
