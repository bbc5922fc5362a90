-- The rows so far have the bits of their Vobs, and the others none.
use Rattle.vob_rows.proofs.VobsLemmas.{AreFilled}
use Rattle.vob_rows.proofs.rows.BitRows.from_vobs.Given as goal

abbrev pub invariant-loop-i : goal.invariant-loop-i
invariant-loop-i g l = AreFilled l.columns l.vobs l.made.rows l.made.columns l.i
