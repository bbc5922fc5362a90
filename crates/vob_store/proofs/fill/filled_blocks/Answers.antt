-- Bits of the one value behind none.
use Rattle.std.proofs.Common.{arith}
use Rattle.std.proofs.Math.Nat.{sub-zero}
use Rattle.vob_block.proofs.NeedLemmas.{need-is-div_ceil}
use Rattle.vob_store.proofs.StorageLemmas.{canonical_nothing, unpacking-zero}
use Rattle.vob_store.proofs.fill.filled_blocks.Goals as goal

pub append_fill-requires-clause-canonical : goal.append_fill-requires-clause-canonical
append_fill-requires-clause-canonical g c = rw c.in_ok-blocks.ensures.items
    (canonical_nothing g.T.BitBlock.BITS g.met.T.BitBlock.wide_law)

pub append_fill-requires-clause-room : goal.append_fill-requires-clause-room
append_fill-requires-clause-room g c = omega (
  arith,
  need-is-div_ceil g.T.BitBlock.BITS g.met.T.BitBlock.wide_law c.args.len c.BITS.result c.BITS.ensures,
  c.div_ceil.ensures,
  c.in_ok-blocks.ensures.capacity,
)

pub returns-clause-stores : goal.returns-clause-stores
returns-clause-stores g c = rw (unpacking-zero, sub-zero) at c.append_fill.ensures.stores
