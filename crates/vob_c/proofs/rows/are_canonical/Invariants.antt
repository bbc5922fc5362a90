-- The rows so far are canonical.
use Rattle.std.proofs.Common.{ℕ, ◌<◌}
use Rattle.vob_block.specs.Packing.{IsCanonical}
use Rattle.vob_c.specs.Rows.{row_words}
use Rattle.vob_c.proofs.rows.are_canonical.Given as goal

abbrev pub invariant-loop-i : goal.invariant-loop-i
invariant-loop-i l =
    (k : ℕ) → k < l.i → IsCanonical l.columns (row_words l.columns l.words k) 64
