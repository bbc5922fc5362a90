-- The rows so far are wider.
use Rattle.std.proofs.Common.{map}
use Rattle.vob_rows.specs.Sparse.{kept_members}
use Rattle.vob_rows.proofs.SparseLemmas.{AreWider}
use Rattle.vob_rows.proofs.sparse.SparseRows.widened.Given as goal

abbrev pub invariant-loop-i : goal.invariant-loop-i
invariant-loop-i l = AreWider l.columns l.numbers l.others.rows l.i
    (map (λ kept. kept_members kept.items) l.initial.kept.items)
    (map (λ kept. kept_members kept.items) l.kept.items)
