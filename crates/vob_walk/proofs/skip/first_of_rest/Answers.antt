-- One block more, after those that had none.
use Rattle.std.proofs.Common.{◌+◌, ◌-◌, ◌∙◌, add-zero, refl, sym, arith}
use Rattle.vob_walk.proofs.SkipLemmas.{Steps-on, Steps-past}
use Rattle.vob_walk.proofs.skip.first_of_rest.Goals as goal

pub loop-i-preserved : goal.loop-i-preserved
loop-i-preserved g c =
    let i = c.loop-i.i in
    Steps-past _ _ _ c.args.from i (i + 1) c.loop-i.auto.i (omega arith) refl refl
    (sym c.is_some.ensures ∙ c.if-is_some.false) c.loop-i.invariant
    (rw add-zero at c.other_at-found.ensures)

pub returns-then-is_some : goal.returns-then-is_some
returns-then-is_some g c =
    let i = c.loop-i.i in
    Steps-on _ _ _ c.args.from i (i + 1) (c.args.span.end - c.args.span.start) c.loop-i.auto.i
    (omega arith) (omega arith) refl
    (sym c.is_some.ensures ∙ c.if-is_some.true) c.loop-i.invariant
    (rw add-zero at c.other_at-found.ensures)
