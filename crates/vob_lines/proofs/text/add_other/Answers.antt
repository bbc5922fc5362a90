-- The item stands behind the space.
use Rattle.std.proofs.Common.{refl, codes}
use Rattle.vob_lines.proofs.WrittenLemmas.{puts_next, puts_failed}
use Rattle.vob_lines.proofs.text.add_other.Goals as goal

pub returns-in_err-add : goal.returns-in_err-add
returns-in_err-add g c =
    puts_failed _ _ c.args.piece.now (codes " ") (g.T.Item.text c.args.other)
    c.from_residual.result _ _ refl c.from_residual.ensures.0 c.in_err-add.ensures

pub returns : goal.returns
returns g c =
    puts_next _ _ c.args.piece.now (codes " ") (g.T.Item.text c.args.other)
    c.add-2.result _ _ _ c.in_ok-add.ensures c.add-2.ensures
