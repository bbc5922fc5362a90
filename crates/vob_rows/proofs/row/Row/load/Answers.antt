-- The bits from the range's start on, masked to as many as it has.
use Rattle.std.proofs.Common.{◌-◌, arith}
use Rattle.vob.proofs.WordsLemmas.{loaded, loaded_each}
use Rattle.vob_rows.proofs.row.Row.load.Goals as goal

pub returns-clause-places : goal.returns-clause-places
returns-clause-places g c = loaded g.T.BitBlock.BITS g.met.T.BitBlock.wide_law
    c.args.self.now _ c.blocks-2.ensures.blocks c.args.range.start
    (c.args.range.end - c.args.range.start) _ _ _ c.bits_at.ensures.places
    c.low_mask-mask.ensures.places c.band.ensures.places

pub returns-clause-each : goal.returns-clause-each
returns-clause-each g c = loaded_each g.T.BitBlock.BITS c.args.self.now c.args.range.start
    (c.args.range.end - c.args.range.start) _ (omega (arith, c.requires.few))
    (returns-clause-places g c)
