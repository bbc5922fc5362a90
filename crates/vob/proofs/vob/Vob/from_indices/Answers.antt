-- From unset bits on those at the indices are set.
use Rattle.vob.proofs.IndicesLemmas.{IsMadeOf-set}
use Rattle.vob.proofs.vob.Vob.from_indices.Goals as goal

pub returns-then-set_each-clause-bits : goal.returns-then-set_each-clause-bits
returns-then-set_each-clause-bits g c = IsMadeOf-set c.in-Ok.ensures.bits
    (c.set_each.ensures.set c.if-set_each.true)
