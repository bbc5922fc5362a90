use Rattle.std.proofs.Common.{length, arith}
use Rattle.vob_store.proofs.TextLemmas.{digits_from_each}
use Rattle.vob_store.proofs.text.fill_digits.Goals as goal

pub returns : goal.returns
returns g c =
    digits_from_each g.T.BitBlock.BITS (g.T.BitBlock.number c.args.block)
    (length c.args.digits.now) c.loop-j.digits c.requires c.loop-j.auto.digits
    (λ i h. c.loop-j.invariant i (omega (arith, h, c.loop-j-test.false)))
