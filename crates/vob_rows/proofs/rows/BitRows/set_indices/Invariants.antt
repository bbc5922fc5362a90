-- The bits of the row at the indices so far were set.
use Rattle.std.proofs.Common.{◌≡◌, [], get_or, set, take}
use Rattle.vob.specs.Indices.{IsSetAt}
use Rattle.vob_rows.proofs.rows.BitRows.set_indices.Given as goal

abbrev pub invariant-loop-j : goal.invariant-loop-j
invariant-loop-j g l = record {
  rows : l.self.rows ≡ set l.fn.self.rows l.i (get_or l.self.rows l.i []);
  set : IsSetAt (take l.j-index l.indices) (get_or l.fn.self.rows l.i []) (get_or l.self.rows l.i []);
  columns : l.self.columns ≡ l.fn.self.columns;
}
