-- Each row doubles the table.
use Rattle.std.proofs.Common.{◌≡◌, ◌∙◌, ◌+◌, ◌-◌, ◌*◌, ◌^◌, length, ap, sym, subst, arith}
use Rattle.std.proofs.lemmas.Grind.{pow_more}
use Rattle.vob_rows.specs.Rows.{row_of}
use Rattle.vob_matrix.specs.Unions.{AreUnions}
use Rattle.vob_matrix.proofs.UnionLemmas.{AreUnions-more, doubled_room}
use Rattle.vob_matrix.proofs.unions.fill_unions.Goals as goal

pub double_unions-requires-clause-room : goal.double_unions-requires-clause-room
double_unions-requires-clause-room c =
    doubled_room c.args.first c.loop-row.row c.args.last c.loop-row.width _ (omega arith)
    (omega arith) c.loop-row.invariant.width (omega (arith, c.loop-row.invariant.count))

pub overflow_mul-width : goal.overflow_mul-width
overflow_mul-width c =
    let room = doubled_room c.args.first c.loop-row.row c.args.last c.loop-row.width
    (length c.args.unions.now.rows) (omega arith) (omega arith) c.loop-row.invariant.width
    (omega arith) in
    omega (arith, room, c.well_formed)

pub loop-row-preserved : goal.loop-row-preserved
loop-row-preserved c =
    let first = c.args.first in
    let row = c.loop-row.row in
    let rows = c.args.rows.now.rows in
    let h = c.loop-row.invariant in
    let t = row - first in
    let one : t + 1 ≡ row + 1 - first = omega arith in
    let at : row ≡ first + t = omega arith in
    record {
      count = c.double_unions.ensures.doubled.shape.count ∙ h.count;
      columns = c.double_unions.ensures.columns ∙ h.columns;
      width = ap (λ n. n * 2) h.width ∙ sym (pow_more 2 t) ∙ ap (λ n. 2 ^ n) one;
      each = subst (λ n. AreUnions rows first n c.double_unions.new.unions.rows) one
          (AreUnions-more rows first t c.loop-row.width _ _ _ h.width
          (c.row.ensures.bits ∙ ap (row_of rows) at) h.each c.double_unions.ensures.doubled);
    }
