-- The blocks of the other hold its bits.
use Rattle.std.proofs.Common.{◌≡◌, length, map}
use Rattle.vob_block.specs.Packing.{unpacking}
use Rattle.vob_block.proofs.PackingLemmas.{unpacking-packing}
use Rattle.vob.proofs.vob.Vob.combine.Goals as goal

pub returns : goal.returns
returns g c =
    let w = g.T.BitBlock.BITS in
    let held : unpacking (length c.args.self.now.bits) (map g.T.BitBlock.number c.blocks-2.result.items) w
    ≡ c.args.other.now.bits =
    rw (c.requires.same, c.blocks-2.ensures.blocks)
    (unpacking-packing w g.met.T.BitBlock.wide_law c.args.other.now.bits) in
    let made = c.combine_blocks.ensures in record {
      bits = rw held at made.bits;
      each = rw held at made.each;
      changed = made.changed;
      capacity = made.capacity;
    }
