-- The places that a run has left are those behind the ones that are gone.
use Rattle.std.proofs.Common.{◌<◌, ◌∙◌, ap, arith}
use Rattle.vob_walk.proofs.FrontBitsLemmas.{run-indices}
use Rattle.vob_walk.proofs.front_bits.FrontBits.block.Goals as goal

pub returns-clause-same : goal.returns-clause-same
returns-clause-same g c =
    let number = g.T.BitBlock.number in
    let left : 0 < c.self.inside.run = grind (arith, c.if-self-eq0.false) in
    rw (← c.self.view_is) (run-indices c.self.invariant left c.BITS.result (number c.ONES.result) _
    c.BITS.ensures (ap number c.ONES.ensures ∙ g.met.T.BitBlock.ones_number_law) c.up.ensures.places)
