-- The blocks of the row hold its bits.
use Rattle.std.proofs.Common.{◌≡◌, length, map, sym}
use Rattle.vob_block.specs.Packing.{unpacking}
use Rattle.vob_block.proofs.PackingLemmas.{unpacking-packing}
use Rattle.vob_rows.proofs.row.Row.or_into.Goals as goal

pub returns : goal.returns
returns g c =
    let w = g.T.BitBlock.BITS in
    let held : unpacking (length c.args.vob.now.bits) (map g.T.BitBlock.number c.blocks-2.result.items) w
    ≡ c.args.self.now =
    rw (sym c.requires, c.blocks-2.ensures.blocks)
    (unpacking-packing w g.met.T.BitBlock.wide_law c.args.self.now) in
    let made = c.or_blocks.ensures in record {
      bits = rw held at made.bits;
      each = rw held at made.each;
      changed = made.changed;
    }
