-- A full last block is followed by a block of the bit, and another one gets the bit.
use Rattle.std.proofs.Common.{arith, ◌∷◌, [], map, length, drop, mod-lt, ◌∙◌}
use Rattle.std.proofs.lemmas.List.{length-map, map_push, take_at}
use Rattle.std.proofs.lemmas.Result.{err_from_is_err_and}
use Rattle.vob_store.proofs.AppendLemmas.{Stores-behind, HasPlaces-fewer}
use Rattle.vob_store.proofs.PushLemmas.{Stores-bit, HasPlaces-bit, full_is_needed}
use Rattle.vob_store.proofs.single.append_bit.Goals as goal

pub returns-in_err-reserve-clause-full : goal.returns-in_err-reserve-clause-full
returns-in_err-reserve-clause-full g c =
    let p = err_from_is_err_and c.from_residual.result c.from_residual.ensures.1 in
    let held = c.in_err-reserve.ensures.full in
    rw p.1 (full_is_needed g.T.BitBlock.BITS g.met.T.BitBlock.wide_law c.args.len
    (map g.T.BitBlock.number c.args.blocks.now.items) c.requires _
    (rw c.BITS-width.ensures at c.if-len-width-eq0.true)
    (omega (
      arith,
      length-map c.args.blocks.now.items g.T.BitBlock.number,
      c.args.blocks.now.ok.0,
    )))

pub returns-in_err-push-clause-full : goal.returns-in_err-push-clause-full
returns-in_err-push-clause-full g c =
    let full = c.in_err-push.ensures.full in
    let room = c.in_ok-reserve.ensures.ok in
    absurd (omega (arith, full, room))

pub returns-in_err-push-clause-err_capacity : goal.returns-in_err-push-clause-err_capacity
returns-in_err-push-clause-err_capacity g c =
    let full = c.in_err-push.ensures.full in
    let room = c.in_ok-reserve.ensures.ok in
    absurd (omega (arith, full, room))

pub returns-in_ok-push-clause-stores : goal.returns-in_ok-push-clause-stores
returns-in_ok-push-clause-stores g c =
    let number = g.T.BitBlock.number in
    let w = g.T.BitBlock.BITS in
    rw (c.in_ok-push.ensures.items, c.in_ok-reserve.ensures.items, map_push) (Stores-behind _ g.met.T.BitBlock.wide_law _ _
    c.requires _ _ _ (rw c.BITS-width.ensures at c.if-len-width-eq0.true) (Stores-bit w
    g.met.T.BitBlock.wide_law c.args.value (number c.first_place.result) c.first_place.ensures))

pub returns-else-len-width-eq0-clause-stores : goal.returns-else-len-width-eq0-clause-stores
returns-else-len-width-eq0-clause-stores g c =
    let w = g.T.BitBlock.BITS in
    let news = c.extend_last.new.blocks in
    let whole = take_at news (drop (length news) c.args.blocks.now.items) c.args.blocks.now.len
    (c.extend_last.auto.blocks ∙ c.deref_mut.ensures.len) in
    rw whole (rw c.deref_mut.ensures.value at c.extend_last.ensures (c.args.value ∷ [])
    (omega (arith, mod-lt c.args.len g.met.T.BitBlock.wide_law))
    (HasPlaces-fewer (HasPlaces-bit w c.args.value _ c.first_place-else-len-width-eq0.ensures)
    (omega arith)))
