-- That the flag counts, by what both leave. The other clauses are those of the call to combine.
use Rattle.std.proofs.Common.{◌≡◌, ◌⊎◌, ◌<◌, true, subst, sym, ◌||◌}
use Rattle.vob_block.specs.Pointwise.{pointwise}
use Rattle.vob.specs.Bits.{count_of}
use Rattle.vob.proofs.BitsLemmas.{GainsBits-by, or_more}
use Rattle.vob.proofs.vob.Vob.or.Goals as goal

pub returns-clause-more : goal.returns-clause-more
returns-clause-more g c =
    let bits = c.args.self.now.bits in
    let both = pointwise ◌||◌ bits c.args.other.now.bits in
    GainsBits-by _ _ _ c.combine.ensures.changed
    (subst (λ after. (after ≡ bits) ⊎ (count_of true bits < count_of true after))
    {x = both} (sym {b = both} c.combine.ensures.bits)
    (or_more bits c.args.other.now.bits c.requires))
