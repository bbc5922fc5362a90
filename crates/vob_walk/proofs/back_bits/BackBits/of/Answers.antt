-- Behind a block whose places are all true there is a length still.
use Rattle.std.proofs.Common.{◌+◌, ◌∙◌, ap, sym, arith}
use Rattle.vob_walk.proofs.BlockBitsLemmas.{full-below}
use Rattle.vob_walk.proofs.BackBitsLemmas.{back_indices-full}
use Rattle.vob_walk.proofs.back_bits.BackBits.of.Goals as goal

pub overflow_add-at : goal.overflow_add-at
overflow_add-at g c =
    let number = g.T.BitBlock.number in
    let full = (g.met.T.BitBlock.equal_law c.args.word c.ONES.result).0 (sym c.eq.ensures ∙ c.if-eq.true)
    ∙ ap number c.ONES.ensures ∙ g.met.T.BitBlock.ones_number_law in
    omega (arith, full-below g.met.T.BitBlock.wide_law full c.requires)

pub returns-then-eq : goal.returns-then-eq
returns-then-eq g c =
    let number = g.T.BitBlock.number in
    back_indices-full _ _ _ _ _ (ap number c.ZERO.ensures ∙ g.met.T.BitBlock.zero_number_law)
    (ap (λ u. c.args.at + u) c.BITS.ensures)
    ((g.met.T.BitBlock.equal_law c.args.word c.ONES.result).0 (sym c.eq.ensures ∙ c.if-eq.true)
    ∙ ap number c.ONES.ensures ∙ g.met.T.BitBlock.ones_number_law)
