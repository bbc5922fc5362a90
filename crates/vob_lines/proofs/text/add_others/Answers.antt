-- Each item stands behind those before it.
use Rattle.std.proofs.Common.{◌++◌, codes, map, ap, sym, ◌∙◌, append-nil, arith}
use Rattle.std.specs.List.{flat_map}
use Rattle.vob_lines.proofs.WrittenLemmas.{loop_next, loop_failed, flat_map-adds}
use Rattle.vob_lines.proofs.text.add_others.Goals as goal

pub returns-in_err-add_other : goal.returns-in_err-add_other
returns-in_err-add_other g c =
    loop_failed (λ xs. flat_map (λ other. codes " " ++ other) (map g.T.Item.text xs))
    (flat_map-adds (λ other. codes " " ++ other) g.T.Item.text) _ _ _ _ _
    (codes " " ++ g.T.Item.text c.other-item.result) c.args.others.now c.loop-other.other-index
    c.other-item.result (omega arith)
    (append-nil _ ∙ ap (λ x. codes " " ++ g.T.Item.text x) (sym c.other-item.is))
    c.from_residual.result _ c.from_residual.ensures.0 c.loop-other.invariant
    c.in_err-add_other.ensures

pub loop-other-preserved : goal.loop-other-preserved
loop-other-preserved g c =
    loop_next (λ xs. flat_map (λ other. codes " " ++ other) (map g.T.Item.text xs))
    (flat_map-adds (λ other. codes " " ++ other) g.T.Item.text) _ _ _ _ _
    (codes " " ++ g.T.Item.text c.other-item.result) c.args.others.now c.loop-other.other-index
    c.other-item.result (omega arith)
    (append-nil _ ∙ ap (λ x. codes " " ++ g.T.Item.text x) (sym c.other-item.is))
    _ c.loop-other.invariant c.in_ok-add_other.ensures
