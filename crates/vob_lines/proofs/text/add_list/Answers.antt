-- The list stands behind the word.
use Rattle.std.proofs.Common.{refl, codes, map, ◌∷◌}
use Rattle.std.proofs.lemmas.List.{nil_from_length}
use Rattle.vob_lines.specs.Texts.{listed}
use Rattle.vob_lines.proofs.WrittenLemmas.{puts_next, puts_failed}
use Rattle.vob_lines.proofs.text.add_list.Goals as goal

pub returns-in_err-add : goal.returns-in_err-add
returns-in_err-add g c =
    puts_failed _ _ c.args.piece.now c.args.word.now (listed (map g.T.Item.text c.args.items.now))
    c.from_residual.result _ _ refl c.from_residual.ensures.0 c.in_err-add.ensures

-- there are none
pub returns-in_default : goal.returns-in_default
returns-in_default g c =
    rw (nil_from_length _ c.in_default.ensures.cases)
    (puts_next _ _ c.args.piece.now c.args.word.now (codes "-") c.add-in_default.result _ _ _
    c.in_ok-add.ensures c.add-in_default.ensures)

pub returns : goal.returns
returns g c =
    rw c.in-Some.ensures.cases.0
    (puts_next _ _ c.args.piece.now c.args.word.now
    (listed (g.T.Item.text c.in-Some.first.now ∷ map g.T.Item.text c.in-Some.others.now))
    c.add_items.result _ _ _ c.in_ok-add.ensures c.add_items.ensures)
