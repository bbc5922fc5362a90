-- The fields' clauses, read as the values'; the other's blocks are the packing of its bits.
use Rattle.std.proofs.Common.{◌+◌, ◌∙◌, sym, ap, arith}
use Rattle.std.proofs.lemmas.List.{length-map}
use Rattle.std.proofs.lemmas.Result.{err_from_is_err_and}
use Rattle.vob_block.proofs.PackingLemmas.{length-unpacking}
use Rattle.vob_store.proofs.RoomLemmas.{room_from_need, no_room}
use Rattle.vob.proofs.CapacityLemmas.{capacity-grows}
use Rattle.vob.proofs.ExtendingLemmas.{RefusesMore-long, RefusesMore-memory, RefusesMore-nothing}
use Rattle.vob.proofs.vob.Vob.extend_from_vob.Goals as goal

pub returns-then-self-other-clause-refused : goal.returns-then-self-other-clause-refused
returns-then-self-other-clause-refused g c =
    RefusesMore-long _ _ _ (rw (← c.self.view_is, ← c.other.view_is, length-unpacking, length-unpacking)
    (omega (arith, c.if-self-other.true)))

pub returns-in_err-reserve_bits-clause-refused : goal.returns-in_err-reserve_bits-clause-refused
returns-in_err-reserve_bits-clause-refused g c =
    let p = err_from_is_err_and c.from_residual.result c.from_residual.ensures.1 in
    let full = c.in_err-reserve_bits.ensures.full in
    let vec = c.self.inside.vec in
    let count = sym (length-map vec.items g.T.BitBlock.number) ∙ c.self.invariant.count in
    let short = no_room g.T.BitBlock.BITS g.met.T.BitBlock.wide_law
    (c.self.inside.len + c.other.inside.len) vec.cap full in
    rw (p.1, p.2) (RefusesMore-memory _ _ _
    (rw (← c.self.view_is, ← c.other.view_is, length-unpacking, length-unpacking) (λ far.
    absurd (omega (arith, far, c.if-self-other.false))))
    (rw (← c.self.view_is, ← c.other.view_is, length-unpacking, length-unpacking) (short, omega (arith, full, count, vec.ok))))

pub join_slice-requires-clause-room : goal.join_slice-requires-clause-room
join_slice-requires-clause-room g c = omega (
  arith,
  room_from_need g.T.BitBlock.BITS g.met.T.BitBlock.wide_law (c.self.inside.len + c.other.inside.len) _
      c.in_ok-reserve_bits.ensures.ok (omega (arith, c.if-self-other.false, c.self.ranges)),
)

pub returns-clause-refused : goal.returns-clause-refused
returns-clause-refused g c =
    RefusesMore-nothing _ _ _ (rw (← c.self.view_is, ← c.other.view_is, length-unpacking, length-unpacking) (λ far.
    absurd (omega (arith, far, c.if-self-other.false))))

pub returns-in_err-reserve_bits-clause-capacity : goal.returns-in_err-reserve_bits-clause-capacity
returns-in_err-reserve_bits-clause-capacity g c = capacity-grows g.T.BitBlock.BITS
    c.self.inside.vec.cap _ _ _ (ap (λ v. v.capacity) c.self.view_is) c.reserve_bits.ensures.capacity

pub returns-clause-ok : goal.returns-clause-ok
returns-clause-ok g c = rw (← c.self.view_is, ← c.other.view_is)
    (rw (c.reserve_bits.ensures.items, c.as_slice.ensures.value) at c.join_slice.ensures.joined.bits)

pub returns-clause-err : goal.returns-clause-err
returns-clause-err g c = tt

pub returns-clause-capacity : goal.returns-clause-capacity
returns-clause-capacity g c = capacity-grows g.T.BitBlock.BITS c.self.inside.vec.cap
    c.join_slice.new.blocks.cap _ _ (ap (λ v. v.capacity) c.self.view_is)
    (omega (arith, c.reserve_bits.ensures.capacity, c.join_slice.ensures.capacity))
