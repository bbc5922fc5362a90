-- The room for bits is the room for the blocks that they need.
use Rattle.std.proofs.Common.{◌+◌, ◌∙◌, sym, arith, length}
use Rattle.std.proofs.lemmas.List.{length-map}
use Rattle.std.proofs.lemmas.Result.{err_from_is_err_and}
use Rattle.vob_block.proofs.PackingLemmas.{length-unpacking}
use Rattle.vob_store.proofs.RoomLemmas.{no_room}
use Rattle.vob.proofs.ExtendingLemmas.{RefusesMore-long, RefusesMore-memory, RefusesMore-nothing}
use Rattle.vob.proofs.vob.Vob.extend_from_slice.Goals as goal

pub returns-then-self-other-clause-refused : goal.returns-then-self-other-clause-refused
returns-then-self-other-clause-refused g c =
    RefusesMore-long _ _ _ (rw (← c.self.view_is, length-unpacking)
    (omega (arith, c.if-self-other.true)))

pub returns-in_err-reserve_bits-clause-refused : goal.returns-in_err-reserve_bits-clause-refused
returns-in_err-reserve_bits-clause-refused g c =
    let p = err_from_is_err_and c.from_residual.result c.from_residual.ensures.1 in
    let full = c.in_err-reserve_bits.ensures.full in
    let vec = c.self.inside.vec in
    let count = sym (length-map vec.items g.T.BitBlock.number) ∙ c.self.invariant.count in
    let short = no_room g.T.BitBlock.BITS g.met.T.BitBlock.wide_law
    (c.self.inside.len + length c.args.other.now) vec.cap full in
    rw (p.1, p.2) (RefusesMore-memory _ _ _
    (rw (← c.self.view_is, length-unpacking) (λ far.
    absurd (omega (arith, far, c.if-self-other.false, c.self.ranges))))
    (rw (← c.self.view_is, length-unpacking) (short, omega (arith, full, count, vec.ok))))

pub returns-clause-refused : goal.returns-clause-refused
returns-clause-refused g c =
    RefusesMore-nothing _ _ _ (rw (← c.self.view_is, length-unpacking) (λ far.
    absurd (omega (arith, far, c.if-self-other.false, c.self.ranges))))
