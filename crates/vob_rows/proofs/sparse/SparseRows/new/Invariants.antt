-- The rows so far have no columns.
use Rattle.std.proofs.Common.{◌≡◌, ℕ, List, [], map, replicate}
use Rattle.vob_rows.specs.Sparse.{kept_members}
use Rattle.vob_rows.proofs.sparse.SparseRows.new.Given as goal

abbrev pub invariant-loop : goal.invariant-loop
invariant-loop l = map (λ kept. kept_members kept.items) l.kept.items ≡ replicate {A = List ℕ} l.counter []
