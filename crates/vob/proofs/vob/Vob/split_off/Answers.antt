-- Past the end by the lists alone, else by what is taken out from there on.
use Rattle.std.proofs.Common.{◌∙◌, arith, ap, length, sym}
use Rattle.std.proofs.lemmas.Bool.{false≢true}
use Rattle.std.proofs.lemmas.Result.{err_from_is_err_and}
use Rattle.vob_block.proofs.PackingLemmas.{length-unpacking}
use Rattle.vob.proofs.DrainLemmas.{take-rest, take-no_rest}
use Rattle.vob.proofs.ExtendingLemmas.{RefusesPastEnd-far, RefusesPastEnd-memory, RefusesPastEnd-nothing}
use Rattle.vob.proofs.vob.Vob.split_off.Goals as goal

pub returns-then-at-len-clause-refused : goal.returns-then-at-len-clause-refused
returns-then-at-len-clause-refused g c = RefusesPastEnd-far _ _
    (rw (← c.self.view_is, length-unpacking) c.if-at-len.true)

pub returns-then-at-len-clause-nothing : goal.returns-then-at-len-clause-nothing
returns-then-at-len-clause-nothing g c = rw (← c.self.view_is, length-unpacking)
    (λ e. absurd (omega (arith, e, c.if-at-len.true)))

pub take_between-requires-clause-order : goal.take_between-requires-clause-order
take_between-requires-clause-order g c = omega (arith, c.if-at-len.false)

pub take_between-requires-clause-inside : goal.take_between-requires-clause-inside
take_between-requires-clause-inside g c = rw (← c.self.view_is, length-unpacking) (omega arith)

pub returns-in_err-rest-clause-refused : goal.returns-in_err-rest-clause-refused
returns-in_err-rest-clause-refused g c =
    let p = err_from_is_err_and c.from_residual.result c.from_residual.ensures.1 in
    rw (p.1, p.2) (RefusesPastEnd-memory _ _ (rw (← c.self.view_is, length-unpacking)
    (λ h. absurd (omega (arith, h, c.if-at-len.false)))))

pub returns-in_err-rest-clause-nothing : goal.returns-in_err-rest-clause-nothing
returns-in_err-rest-clause-nothing g c = rw (← c.self.view_is, length-unpacking)
    (λ h. absurd (false≢true (c.in_err-rest.ensures.nothing h)))

pub returns-clause-rest : goal.returns-clause-rest
returns-clause-rest g c = c.in_ok-rest.ensures.taken ∙ take-rest c.args.at _ c.args.self.now.bits
    (ap (λ v. length v.bits) (sym c.self.view_is) ∙ length-unpacking _ _ _)

pub returns-clause-ok : goal.returns-clause-ok
returns-clause-ok g c = c.in_ok-rest.ensures.left ∙ take-no_rest c.args.at _ c.args.self.now.bits
    (ap (λ v. length v.bits) (sym c.self.view_is) ∙ length-unpacking _ _ _)

pub returns-clause-refused : goal.returns-clause-refused
returns-clause-refused g c = RefusesPastEnd-nothing _ _ _
    (rw (← c.self.view_is, length-unpacking) (λ h. absurd (omega (arith, h, c.if-at-len.false))))
