-- A copy has the same bits, into which `and` goes.
use Rattle.std.proofs.Common.{◌&&◌, ◌∙◌, ap, length}
use Rattle.vob_block.specs.Pointwise.{pointwise}
use Rattle.vob.proofs.ops.RefVobBitAnd.bitand.Goals as goal

pub and-requires : goal.and-requires
and-requires g c = ap length c.in_ok-made.ensures.bits ∙ c.requires

pub returns : goal.returns
returns g c = c.and.ensures.bits
    ∙ ap (λ bits. pointwise ◌&&◌ bits c.args.other.now.bits) c.in_ok-made.ensures.bits
