-- The arrays are written as they are.
use Rattle.std.proofs.Common.{◌∙◌, sym}
use Rattle.vob_c.proofs.NameLemmas.{table_same}
use Rattle.vob_c.proofs.tables.conthiral_table.Goals as goal

pub returns-clause-table : goal.returns-clause-table
returns-clause-table c = λ _.
    let table = c.in-Ok-table_of_text.table in (
      table,
      table_same table c.in-Ok-arrays_of.arrays.terminals
          (sym (c.copy_from_slice.ensures.after ∙ c.deref.ensures.value))
          (sym (c.copy_from_slice-2.ensures.after ∙ c.deref-2.ensures.value))
          (sym (c.copy_from_slice-3.ensures.after ∙ c.deref-3.ensures.value))
          (sym (c.copy_from_slice-4.ensures.after ∙ c.deref-4.ensures.value))
          (sym (c.copy_from_slice-5.ensures.after ∙ c.deref-5.ensures.value)) c.in-Ok-arrays_of.ensures.table,
      c.copy_from_slice-6.ensures.after ∙ c.deref-6.ensures.value ∙ c.in-Ok-arrays_of.ensures.right,
    )
