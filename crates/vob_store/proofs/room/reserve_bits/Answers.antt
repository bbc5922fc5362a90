-- What `div_ceil` answers is the need.
use Rattle.std.proofs.Common.{arith}
use Rattle.std.proofs.lemmas.Result.{err_from_is_err_and}
use Rattle.vob_block.proofs.NeedLemmas.{need-is-div_ceil}
use Rattle.vob_store.proofs.room.reserve_bits.Goals as goal

pub returns-in_err-reserve-clause-full : goal.returns-in_err-reserve-clause-full
returns-in_err-reserve-clause-full g c =
    let p = err_from_is_err_and c.from_residual.result c.from_residual.ensures.1 in
    let wanted = need-is-div_ceil g.T.BitBlock.BITS g.met.T.BitBlock.wide_law c.args.total c.BITS.result
    c.BITS.ensures in
    rw p.1 (omega (
      arith,
      wanted,
      c.div_ceil-wanted.ensures,
      c.if-capacity-wanted.true,
      c.capacity.ensures,
    ))

pub returns-in_ok-reserve-clause-ok : goal.returns-in_ok-reserve-clause-ok
returns-in_ok-reserve-clause-ok g c =
    let wanted = need-is-div_ceil g.T.BitBlock.BITS g.met.T.BitBlock.wide_law c.args.total c.BITS.result
    c.BITS.ensures in
    omega (arith, wanted, c.div_ceil-wanted.ensures, c.in_ok-reserve.ensures.ok, c.len.ensures)

pub returns-in_ok-reserve-clause-stays : goal.returns-in_ok-reserve-clause-stays
returns-in_ok-reserve-clause-stays g c =
    let wanted = need-is-div_ceil g.T.BitBlock.BITS g.met.T.BitBlock.wide_law c.args.total c.BITS.result
    c.BITS.ensures in
    λ h. absurd (omega (
      arith,
      wanted,
      c.div_ceil-wanted.ensures,
      c.if-capacity-wanted.true,
      c.capacity.ensures,
    ))

pub returns-else-capacity-wanted-clause-ok : goal.returns-else-capacity-wanted-clause-ok
returns-else-capacity-wanted-clause-ok g c =
    let wanted = need-is-div_ceil g.T.BitBlock.BITS g.met.T.BitBlock.wide_law c.args.total c.BITS.result
    c.BITS.ensures in
    omega (arith, wanted, c.div_ceil-wanted.ensures, c.if-capacity-wanted.false, c.capacity.ensures)
