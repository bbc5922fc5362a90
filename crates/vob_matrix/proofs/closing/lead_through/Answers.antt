-- A row with a step to the node gets that node's row.
use Rattle.std.proofs.Common.{◌∙◌, ◌<◌, ◌≤◌, [], false, length, get_or, unwrap_or, refl, sym, ap, arith}
use Rattle.std.proofs.lemmas.Option.{unwrap_or-slice_get}
use Rattle.vob_matrix.proofs.UnionLemmas.{GetsRow-or, IsLedThrough-start, IsLedThrough-skip, IsLedThrough-more}
use Rattle.vob_matrix.proofs.closing.lead_through.Goals as goal
use Rattle.vob_matrix.proofs.closing.lead_through.Goals.{then-unwrap_or, else-unwrap_or}

pub loop-row-init : goal.loop-row-init
loop-row-init c = record { led = IsLedThrough-start _ _ _; columns = refl }

pub loop-row-preserved : goal.loop-row-preserved
loop-row-preserved c =
    let row = c.loop-row.row in
    let k = c.args.through in
    let first = c.args.first in
    let from : first ≤ row = omega arith in
    let h = c.loop-row.invariant.led in
    let inside : row < length c.loop-row.rows.rows = omega (arith, h.shape.count) in
    let step = sym (unwrap_or-slice_get (get_or c.loop-row.rows.rows row []) k false)
    ∙ ap (λ o. unwrap_or o false) (sym c.get.ensures) ∙ sym c.unwrap_or.ensures in
    elim c.if-unwrap_or.branch [
      | then-unwrap_or w ↦ rw w.rows-is record {
        led = IsLedThrough-more _ k first row _ from h _ (step ∙ w.if-unwrap_or.true)
            (GetsRow-or _ row k _ _ inside w.or_row.ensures.rows w.or_row.ensures.each);
        columns = w.or_row.ensures.columns ∙ c.loop-row.invariant.columns;
      }
      | else-unwrap_or w ↦ rw w.rows-is record {
        led = IsLedThrough-skip _ k first row _ from h (step ∙ w.if-unwrap_or.false);
        columns = c.loop-row.invariant.columns;
      }
    ]
