-- That the flag counts, by what both leave. The other clauses are those of the call to combine.
use Rattle.std.proofs.Common.{◌≡◌, ◌⊎◌, ◌<◌, true, subst, sym}
use Rattle.vob_block.specs.Pointwise.{pointwise, without}
use Rattle.vob.specs.Bits.{count_of}
use Rattle.vob.proofs.BitsLemmas.{LosesBits-by}
use Rattle.vob.proofs.PairLemmas.{without_fewer}
use Rattle.vob.proofs.vob.Vob.and_not.Goals as goal

pub returns-clause-fewer : goal.returns-clause-fewer
returns-clause-fewer g c =
    let bits = c.args.self.now.bits in
    let both = pointwise without bits c.args.other.now.bits in
    LosesBits-by _ _ _ c.combine.ensures.changed
    (subst (λ after. (after ≡ bits) ⊎ (count_of true after < count_of true bits))
    {x = both} (sym {b = both} c.combine.ensures.bits)
    (without_fewer bits c.args.other.now.bits c.requires))
