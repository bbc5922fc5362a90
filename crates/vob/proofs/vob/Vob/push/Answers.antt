-- The fields' clauses, read as the value's.
use Rattle.std.proofs.Common.{arith}
use Rattle.std.proofs.lemmas.Result.{err_from_is_err_and}
use Rattle.vob_block.proofs.PackingLemmas.{length-unpacking}
use Rattle.vob.proofs.ExtendingLemmas.{RefusesMore-long, RefusesMore-memory, RefusesMore-nothing}
use Rattle.vob.proofs.vob.Vob.push.Goals as goal

pub returns-then-self-clause-refused : goal.returns-then-self-clause-refused
returns-then-self-clause-refused g c =
    RefusesMore-long _ _ _ (rw (← c.self.view_is, length-unpacking)
    (omega (arith, c.if-self.true)))

pub returns-in_err-append_bit-clause-refused : goal.returns-in_err-append_bit-clause-refused
returns-in_err-append_bit-clause-refused g c =
    let p = err_from_is_err_and c.from_residual.result c.from_residual.ensures.1 in
    let full = c.in_err-append_bit.ensures.full in
    rw (p.1, p.2) (RefusesMore-memory _ _ _
    (rw (← c.self.view_is, length-unpacking) (λ far.
    absurd (omega (arith, far, c.if-self.false, c.self.ranges))))
    (rw (← c.self.view_is, length-unpacking) (omega (arith, full.0), full.1)))

pub returns-clause-refused : goal.returns-clause-refused
returns-clause-refused g c =
    RefusesMore-nothing _ _ _ (rw (← c.self.view_is, length-unpacking) (λ far.
    absurd (omega (arith, far, c.if-self.false, c.self.ranges))))
