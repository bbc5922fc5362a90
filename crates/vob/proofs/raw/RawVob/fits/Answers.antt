-- The quotient rounded up is the need.
use Rattle.std.proofs.Common.{arith}
use Rattle.vob_store.proofs.RawLemmas.{count_decides}
use Rattle.vob.proofs.raw.RawVob.fits.Goals as goal

pub returns : goal.returns
returns g c =
    let inside = c.self.inside in
    rw (← c.self.view_is) (count_decides g.T.BitBlock.number _ g.met.T.BitBlock.wide_law _ _ _ _
    c.BITS.ensures c.div_ceil.ensures _ (omega (arith, c.len.ensures, inside.vec.ok)))
