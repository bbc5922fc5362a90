-- A run is as long as it says.
use Rattle.std.proofs.Common.{◌<◌, arith}
use Rattle.vob_walk.proofs.FrontBitsLemmas.{length-run}
use Rattle.vob_walk.proofs.front_bits.FrontBits.count.Goals as goal

pub returns-else-self-eq0 : goal.returns-else-self-eq0
returns-else-self-eq0 g c =
    let left : 0 < c.self.inside.run = grind (arith, c.if-self-eq0.false) in
    rw (← c.self.view_is) (length-run c.self.invariant left)
