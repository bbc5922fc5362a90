-- Four blocks more, after those that had none.
use Rattle.std.proofs.Common.{◌*◌, ◌+◌, ◌∙◌, refl, sym, arith}
use Rattle.vob_walk.proofs.SkipLemmas.{Steps-on, Steps-past}
use Rattle.vob_walk.proofs.skip.first_of_fours.Goals as goal

pub loop-four-preserved : goal.loop-four-preserved
loop-four-preserved g c =
    let m = 4 * c.loop-four.four in
    Steps-past _ _ _ 0 m (m + 4) (omega arith) (omega arith) (omega arith) refl
    (sym c.is_some.ensures ∙ c.if-is_some.false) c.loop-four.invariant
    c.first_of_four-found.ensures

pub returns-then-is_some : goal.returns-then-is_some
returns-then-is_some g c =
    let m = 4 * c.loop-four.four in
    Steps-on _ _ _ 0 m (m + 4) (4 * c.args.fours) (omega arith) (omega arith)
    (omega arith) refl (sym c.is_some.ensures ∙ c.if-is_some.true)
    c.loop-four.invariant c.first_of_four-found.ensures
