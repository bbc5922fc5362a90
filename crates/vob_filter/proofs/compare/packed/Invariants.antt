use Rattle.std.proofs.Common.{◌≡◌, ℕ, ◌*◌, ◌<◌, length}
use Rattle.vob_block.specs.Packing.{item}
use Rattle.vob_filter.proofs.compare.packed.Given as goal

-- the rows of the words so far
abbrev pub invariant-loop-k : goal.invariant-loop-k
invariant-loop-k g l = record {
  len : length l.bits.bits ≡ l.len;
  below : (i : ℕ) → i < 64 * l.k → i < l.len → item l.bits.bits i ≡ item (g.R.Rows.rows l.rows) i;
}
