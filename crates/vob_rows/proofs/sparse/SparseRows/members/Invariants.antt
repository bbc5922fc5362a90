-- The columns of the blocks so far are appended.
use Rattle.std.proofs.Common.{◌≡◌, take}
use Rattle.vob_rows.specs.Sparse.{kept_members}
use Rattle.vob_rows.proofs.sparse.SparseRows.members.Given as goal

abbrev pub invariant-loop-from : goal.invariant-loop-from
invariant-loop-from l = l.columns.items ≡ kept_members (take l.from-index l.from-items)
