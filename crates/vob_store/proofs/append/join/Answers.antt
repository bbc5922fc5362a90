-- The blocks that are there, filled up with as many empty ones as the bits need.
use Rattle.std.proofs.Common.{◌+◌, map, arith, ◌∙◌}
use Rattle.std.proofs.lemmas.List.{take_at, length-map}
use Rattle.vob_block.proofs.NeedLemmas.{need_least, need-le-need}
use Rattle.vob_store.proofs.FillLemmas.{HaveRoom-filled, IsJoined-filled}
use Rattle.vob_store.proofs.append.join.Goals as goal

pub fill_up-requires : goal.fill_up-requires
fill_up-requires g c =
    let w = g.T.BitBlock.BITS in
    let total = c.args.len + c.args.more in
    record {
      canonical = c.requires.canonical;
      longer = omega (
        arith,
        c.requires.canonical.count,
        length-map c.args.own.now.items g.T.BitBlock.number,
        c.block_count.ensures,
        need-le-need w g.met.T.BitBlock.wide_law c.args.len total (omega arith),
      );
      room = omega (
        arith,
        need_least w g.met.T.BitBlock.wide_law total c.args.own.now.cap c.requires.room,
        c.block_count.ensures,
      );
    }

pub join_into-requires : goal.join_into-requires
join_into-requires g c =
    let number = g.T.BitBlock.number in
    record {
      room = rw c.deref_mut.ensures.value (HaveRoom-filled _ g.met.T.BitBlock.wide_law c.args.len
          c.args.more (map number c.args.own.now.items) _ _ _ c.block_count.ensures
          c.fill_up.ensures.stores c.requires.other);
    }

pub returns-clause-joined : goal.returns-clause-joined
returns-clause-joined g c =
    let number = g.T.BitBlock.number in
    rw (take_at c.join_into.new.own _ c.fill_up.new.blocks.len
    (c.join_into.auto.own ∙ c.deref_mut.ensures.len))
    (IsJoined-filled _ g.met.T.BitBlock.wide_law c.args.len c.args.more
    (map number c.args.own.now.items) _ _ _ c.block_count.ensures c.fill_up.ensures.stores _
    (rw c.deref_mut.ensures.value at c.join_into.ensures.joined))
