-- The others stand behind the first item.
use Rattle.std.proofs.Common.{refl, codes, map, ◌++◌}
use Rattle.std.specs.List.{flat_map}
use Rattle.vob_lines.proofs.WrittenLemmas.{puts_next, puts_failed}
use Rattle.vob_lines.proofs.text.add_items.Goals as goal

pub returns-in_err-add : goal.returns-in_err-add
returns-in_err-add g c =
    puts_failed _ _ c.args.piece.now (g.T.Item.text c.args.first)
    (flat_map (λ other. codes " " ++ other) (map g.T.Item.text c.args.others.now))
    c.from_residual.result _ _ refl c.from_residual.ensures.0 c.in_err-add.ensures

pub returns : goal.returns
returns g c =
    puts_next _ _ c.args.piece.now (g.T.Item.text c.args.first)
    (flat_map (λ other. codes " " ++ other) (map g.T.Item.text c.args.others.now))
    c.add_others.result _ _ _ c.in_ok-add.ensures c.add_others.ensures
