-- The entry is written in its row, and the row in its place.
use Rattle.std.proofs.Common.{[], get_or, arith}
use Rattle.std.proofs.lemmas.List.{get_or-set_same}
use Rattle.vob.proofs.BitsLemmas.{IsWritten-set}
use Rattle.vob_matrix.proofs.ShapeLemmas.{IsEntryWritten-at}
use Rattle.vob_matrix.proofs.matrix.BitMatrix.set.Goals as goal

pub returns-clause-entries : goal.returns-clause-entries
returns-clause-entries c =
    let columns = c.columns-columns.ensures in
    let long = columns.long c.args.row [] c.requires.row in
    IsEntryWritten-at _ c.args.row c.args.column c.args.value _ c.requires.row
    (omega (arith, long, columns.columns, c.requires.column)) (rw c.self.view_is at c.set.ensures.rows)

pub returns-clause-written : goal.returns-clause-written
returns-clause-written c =
    let rows = c.args.self.now.rows in
    let row = c.args.row in
    let columns = c.columns-columns.ensures in
    let long = columns.long row [] c.requires.row in
    let is = rw c.self.view_is at c.set.ensures.rows in
    rw (is, get_or-set_same rows row _ [] c.requires.row)
    (IsWritten-set (get_or rows row []) c.args.column c.args.value
    (omega (arith, long, columns.columns, c.requires.column)))
