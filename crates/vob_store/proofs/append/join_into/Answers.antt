-- The others are joined in the blocks from that of bit `len` on.
use Rattle.std.proofs.Common.{◌≤◌, ◌/◌, length, arith, rules}
use Rattle.vob_store.proofs.JoinLemmas.{start-le, tail_fits, IsJoined-built}
use Rattle.vob_store.proofs.append.join_into.Goals as goal

pub slice_bounds-join_behind-count : goal.slice_bounds-join_behind-count
slice_bounds-join_behind-count g c = start-le g.T.BitBlock.number _ g.met.T.BitBlock.wide_law _ _ _
    _ c.requires.room _ c.BITS-width.ensures

pub offset_bounds-own-len : goal.offset_bounds-own-len
offset_bounds-own-len g c =
    let start : c.args.len / c.BITS-width.result ≤ length c.args.own.now = start-le
    g.T.BitBlock.number _ g.met.T.BitBlock.wide_law _ _ _ _ c.requires.room _ c.BITS-width.ensures
    in
    search rules

pub slice_bounds-join_behind-start : goal.slice_bounds-join_behind-start
slice_bounds-join_behind-start g c =
    let start : c.args.len / c.BITS-width.result ≤ length c.args.own.now = start-le
    g.T.BitBlock.number _ g.met.T.BitBlock.wide_law _ _ _ _ c.requires.room _ c.BITS-width.ensures
    in
    search rules

pub join_behind-requires : goal.join_behind-requires
join_behind-requires g c =
    let fits = tail_fits g.T.BitBlock.number _ g.met.T.BitBlock.wide_law _ _ _ _ c.requires.room _
    c.BITS-width.ensures in
    record { whole = fits.0; some = fits.1; few = fits.2; many = fits.3; below = search rules }

pub returns-clause-joined : goal.returns-clause-joined
returns-clause-joined g c = IsJoined-built g.T.BitBlock.number _ g.met.T.BitBlock.wide_law _ _ _ _
    c.requires.room _ c.BITS-width.ensures c.join_behind.new.own
    (omega (arith, c.join_behind.auto.own)) c.all_in_range.ensures c.join_behind.ensures.built
