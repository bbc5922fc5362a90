-- The quotient rounded up is the need.
use Rattle.std.proofs.Common.{◌∙◌, length, not, nat_eq, ap}
use Rattle.vob_block.proofs.NeedLemmas.{need-is-div_ceil}
use Rattle.vob_run.proofs.calls.raw.can_take.Goals as goal

pub returns-else-not-mask : goal.returns-else-not-mask
returns-else-not-mask g c =
    let width = g.T.BitBlock.BITS in
    let wide = g.met.T.BitBlock.wide_law in
    let rounded = need-is-div_ceil width wide c.args.len c.BITS.result c.BITS.ensures in
    let same = ap (nat_eq (length c.args.blocks.now)) (c.div_ceil.ensures ∙ rounded) in
    rw c.if-not-mask.false (ap not same)
