-- The blocks from that of bit `at` on are moved down.
use Rattle.std.proofs.Common.{◌≤◌, ◌/◌, ◌≡◌, ◌-◌, length, map, arith, rules}
use Rattle.std.proofs.lemmas.List.{take_at, length-map}
use Rattle.vob_block.proofs.NeedLemmas.{lt-need}
use Rattle.vob_store.proofs.BuildLemmas.{AreBuilt-upto}
use Rattle.vob_store.proofs.FunnelLemmas.{start-le, need-le-tail, Stores-tail}
use Rattle.vob_store.proofs.split.split_blocks.Given as given
use Rattle.vob_store.proofs.split.split_blocks.Goals as goal
use Rattle.vob_store.proofs.split.split_blocks.Goals.{After-BITS-width}

start : (g : given.Over) (c : After-BITS-width g)
    → c.args.at / c.BITS-width.result ≤ length c.args.blocks.now
start g c = start-le g.T.BitBlock.number _ g.met.T.BitBlock.wide_law _ _ _ c.requires.count
    c.requires.inside _ c.BITS-width.ensures

pub offset_bounds-blocks-at : goal.offset_bounds-blocks-at
offset_bounds-blocks-at g c = start g (goal.at.offset_bounds-blocks-at g c).After-BITS-width

pub slice_bounds-split_into-count : goal.slice_bounds-split_into-count
slice_bounds-split_into-count g c = start g (goal.at.slice_bounds-split_into-count g c).After-BITS-width

pub slice_bounds-split_into-start : goal.slice_bounds-split_into-start
slice_bounds-split_into-start g c =
    let first = start g (goal.at.slice_bounds-split_into-start g c).After-BITS-width in
    search rules

pub split_into-requires-clause-some : goal.split_into-requires-clause-some
split_into-requires-clause-some g c =
    let some = lt-need g.T.BitBlock.BITS g.met.T.BitBlock.wide_law (c.args.len - c.args.at) 0
    (omega (arith, c.requires.inside)) in
    omega (arith, c.deref_mut.ensures.len, c.in_ok-resize.ensures.len, some)

pub split_into-requires-clause-count : goal.split_into-requires-clause-count
split_into-requires-clause-count g c =
    let fits = need-le-tail g.T.BitBlock.number _ g.met.T.BitBlock.wide_law _ _ _ c.requires.count
    c.requires.inside _ c.BITS-width.ensures in
    omega (arith, c.deref_mut.ensures.len, c.in_ok-resize.ensures.len, fits)

pub mask_last-requires : goal.mask_last-requires
mask_last-requires g c =
    let made = c.block_count-count.ensures in
    omega (arith, c.deref_mut-2.ensures.len, c.in_ok-resize.ensures.len, made)

pub returns : goal.returns
returns g c =
    let number = g.T.BitBlock.number in
    let count = c.resize.new.self.len in
    let moved = c.split_into.new.rest in
    let long : length moved ≡ count =
    omega (arith, c.split_into.auto.rest, c.deref_mut.ensures.len) in
    let whole : length c.mask_last.new.blocks ≡ count =
    omega (arith, c.mask_last.auto.blocks, c.deref_mut-2.ensures.len) in
    let same = length-map moved number in
    let made = c.block_count-count.ensures in
    let kept = rw (c.deref_mut-2.ensures.value, take_at moved _ count long) at c.mask_last.ensures in
    rw (take_at c.mask_last.new.blocks _ count whole) (Stores-tail number _
    g.met.T.BitBlock.wide_law _ _ _ c.requires.count c.requires.inside _ c.BITS-width.ensures
    (map number moved) _ (omega (arith, same, long, c.in_ok-resize.ensures.len, made)) (AreBuilt-upto _
    c.split_into.ensures (omega (arith, same, c.split_into.auto.rest))) kept)
