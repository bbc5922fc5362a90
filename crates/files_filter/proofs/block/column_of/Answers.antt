-- One more value is set.
use Rattle.std.proofs.Common.{◌<◌, ◌∙◌, ap, arith, length}
use Rattle.vob_filter.specs.Columns.{value_at}
use Rattle.files_filter.proofs.BlocksLemmas.{length_set, value_more}
use Rattle.files_filter.proofs.block.column_of.Goals as goal

pub loop-number-preserved : goal.loop-number-preserved
loop-number-preserved c =
    let less : c.loop-number.number < length c.args.rows.now = omega (arith, c.loop-number-test.true) in
    let now = c.loop-number.invariant in
    let value = c.answer.ensures
    ∙ ap (λ row. value_at row.answers.items c.args.comparison) c.index-rows-number.is in record {
      len = rw c.set.ensures (length_set c.loop-number.column c.loop-number.number c.answer.result _ now.len);
      each = rw c.set.ensures (value_more c.loop-number.column c.args.rows.now c.loop-number.number c.args.comparison _
          c.index-rows-number.result now.len less value now.each);
    }
