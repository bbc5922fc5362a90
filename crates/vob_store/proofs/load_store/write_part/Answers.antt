-- The block is made of itself and of the bits, moved up to their place.
use Rattle.std.proofs.Common.{◌/◌, ◌%◌, length, ap, arith}
use Rattle.std.proofs.lemmas.List.{length-map, map-set}
use Rattle.vob_store.proofs.BuildLemmas.{number_indexed}
use Rattle.vob_store.proofs.CopyLemmas.{AreCopied-nothing, block_and_place, block_inside, AreCopied-spliced}
use Rattle.vob_store.proofs.load_store.write_part.Goals as goal

pub returns-then-count-eq0 : goal.returns-then-count-eq0
returns-then-count-eq0 g c = λ others start places.
    AreCopied-nothing _ _ _ _ _ c.if-count-eq0.true

pub returns : goal.returns
returns g c = λ others start places.
    let number = g.T.BitBlock.number in
    let w = g.T.BitBlock.BITS in
    let u = c.BITS-width.result in
    let at = c.args.at in
    let own = c.args.own.now in
    let whole = block_and_place _ at _ c.BITS-width.ensures in
    let room = block_inside _ _ _ _ (length own) whole
    (omega (arith, c.requires.inside, c.if-count-eq0.false)) in
    rw map-set (AreCopied-spliced _ g.met.T.BitBlock.wide_law _ _ _ _
    (omega (arith, room, length-map own number)) _ _ _ _ _ _ _ _ whole
    (omega (arith, c.requires.one, ap (λ v. at % v) c.BITS-width.ensures)) (number_indexed number
    own (at / u) c.index-own-k.result room c.index-own-k.is) places
    c.up.ensures.places c.spliced.ensures.places c.spliced-2.ensures.places)
