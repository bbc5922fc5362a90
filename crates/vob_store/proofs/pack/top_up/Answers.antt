-- As many bits as find room are packed and put there.
use Rattle.std.proofs.Common.{◌≡◌, ◌-◌, ◌%◌, length, min, take, arith, mod-lt}
use Rattle.std.proofs.lemmas.List.{length-take-le}
use Rattle.vob_store.proofs.AppendLemmas.{HasPlaces-fewer, full-room}
use Rattle.vob_store.proofs.pack.top_up.Goals as goal

pub returns-clause-stores : goal.returns-clause-stores
returns-clause-stores g c =
    let w = g.T.BitBlock.BITS in
    let taken = c.min-taken.result in
    let rest = mod-lt c.args.len g.met.T.BitBlock.wide_law in
    let size : taken ≡ min (length c.args.bits.now) (w - c.args.len % w) =
    rw c.BITS-width.ensures at c.min-taken.ensures in
    let long : length (take taken c.args.bits.now) ≡ taken =
    length-take-le taken c.args.bits.now (omega (arith, size)) in
    rw long at (c.extend_last.ensures (take taken c.args.bits.now) (omega (arith, long, size, rest))
    (HasPlaces-fewer c.pack_block.ensures.places (omega arith)))

pub returns-clause-whole : goal.returns-clause-whole
returns-clause-whole g c = λ less. full-room g.T.BitBlock.BITS c.args.len c.min-taken.result _
    g.met.T.BitBlock.wide_law (rw c.BITS-width.ensures at c.min-taken.ensures) less
