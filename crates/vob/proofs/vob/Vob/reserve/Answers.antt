-- The room for bits is the room for the blocks that they need.
use Rattle.std.specs.Prelude.{Err}
use Rattle.std.proofs.Common.{◌-◌, ◌*◌, ◌^◌, min, refl, sym, ap, ◌∙◌, arith}
use Rattle.std.proofs.lemmas.List.{length-map}
use Rattle.std.proofs.lemmas.Result.{err_from_is_err_and}
use Rattle.vob_block.proofs.PackingLemmas.{length-unpacking}
use Rattle.vob_store.proofs.RoomLemmas.{room_from_need, need_from_room, no_room}
use Rattle.vob.proofs.ExtendingLemmas.{RefusesMore-long, RefusesMore-memory, RefusesMore-nothing, NeedsMemory-some}
use Rattle.vob.proofs.vob.Vob.reserve.Goals as goal

pub returns-then-additional-self-clause-refused : goal.returns-then-additional-self-clause-refused
returns-then-additional-self-clause-refused g c =
    RefusesMore-long _ _ _ (rw (← c.self.view_is, length-unpacking)
    (omega (arith, c.if-additional-self.true, c.self.ranges)))

pub returns-then-additional-self-clause-room : goal.returns-then-additional-self-clause-room
returns-then-additional-self-clause-room g c = rw (← c.self.view_is, length-unpacking)
    (λ h. absurd (omega (arith, c.if-additional-self.true, c.self.ranges)))

pub returns-in_err-reserve_bits-clause-refused : goal.returns-in_err-reserve_bits-clause-refused
returns-in_err-reserve_bits-clause-refused g c =
    let p = err_from_is_err_and c.from_residual.result c.from_residual.ensures.1 in
    let full = c.in_err-reserve_bits.ensures.full in
    let vec = c.self.inside.vec in
    let count = sym (length-map vec.items g.T.BitBlock.number) ∙ c.self.invariant.count in
    let short = no_room g.T.BitBlock.BITS g.met.T.BitBlock.wide_law _ vec.cap full in
    rw (p.1, p.2) (rw (← c.self.view_is) (RefusesMore-memory _ _ _
    (rw length-unpacking (λ far.
    absurd (omega (arith, far, c.if-additional-self.false, c.self.ranges))))
    (rw length-unpacking (short, omega (arith, full, count, vec.ok)))))

pub returns-in_err-reserve_bits-clause-room : goal.returns-in_err-reserve_bits-clause-room
returns-in_err-reserve_bits-clause-room g c =
    let p = err_from_is_err_and c.from_residual.result c.from_residual.ensures.1 in
    let h = (returns-in_err-reserve_bits-clause-refused g c).memory (p.1 ∙ ap Err p.2) in
    λ room. absurd (omega (arith, h.0, room))

pub returns-in_err-reserve_bits-clause-nothing : goal.returns-in_err-reserve_bits-clause-nothing
returns-in_err-reserve_bits-clause-nothing g c =
    let p = err_from_is_err_and c.from_residual.result c.from_residual.ensures.1 in
    let h = (returns-in_err-reserve_bits-clause-refused g c).memory (p.1 ∙ ap Err p.2) in
    λ none. absurd (NeedsMemory-some _ _ _ h none)

pub returns-clause-ok : goal.returns-clause-ok
returns-clause-ok g c = rw (← c.self.view_is, length-unpacking) (room_from_need
    g.T.BitBlock.BITS g.met.T.BitBlock.wide_law _ _ c.in_ok-reserve_bits.ensures.ok
    (omega (arith, c.if-additional-self.false, c.self.ranges)))

pub returns-clause-room : goal.returns-clause-room
returns-clause-room g c =
    rw (← c.self.view_is, length-unpacking) (λ h. (
      refl,
      ap (λ k. min (k * g.T.BitBlock.BITS) (2 ^ 64 - 1)) (c.in_ok-reserve_bits.ensures.stays
          (need_from_room g.T.BitBlock.BITS g.met.T.BitBlock.wide_law _ c.self.inside.vec.cap h)),
    ))

pub returns-clause-refused : goal.returns-clause-refused
returns-clause-refused g c = RefusesMore-nothing _ _ _ (rw (← c.self.view_is, length-unpacking)
    (λ far. absurd (omega (arith, far, c.if-additional-self.false, c.self.ranges))))
