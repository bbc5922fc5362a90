-- The rest after the fours.
use Rattle.std.proofs.Common.{◌∙◌, ◌-◌, ◌*◌, ◌/◌, sym, refl, arith}
use Rattle.vob_walk.proofs.SkipLemmas.{Steps-start, Steps-on, Steps-after}
use Rattle.vob_walk.proofs.skip.first_other.Goals as goal

pub returns-then-is_some : goal.returns-then-is_some
returns-then-is_some g c =
    let count = c.args.span.end - c.args.span.start in
    Steps-on _ _ _ 0 0 (4 * (count / 4)) count (omega arith) (omega arith) (omega arith) refl
    (sym c.is_some.ensures ∙ c.if-is_some.true) (Steps-start _ _ _
    (g.S.Source.reading c.args.blocks.now) 0 0 refl)
    c.first_of_fours-found.ensures

pub returns : goal.returns
returns g c =
    let count = c.args.span.end - c.args.span.start in
    Steps-after _ _ _ 0 (4 * (count / 4)) count (omega arith) (omega arith)
    (sym c.is_some.ensures ∙ c.if-is_some.false) c.first_of_fours-found.ensures
    c.first_of_rest.ensures
