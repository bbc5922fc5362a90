-- The words so far are up to date.
use Rattle.std.proofs.Common.{◌≡◌, ◌⊎◌, ◌<◌, ◌≤◌, ℕ, false}
use Rattle.vob_block.specs.Packing.{item}
use Rattle.vob_slots.specs.Summaries.{IsSummaryBut}
use Rattle.vob_slots.proofs.summary.renew.Given as goal

abbrev pub invariant-loop-word : goal.invariant-loop-word
invariant-loop-word l = record {
  above : l.from ≤ l.word;
  but : IsSummaryBut l.word l.to l.bits.bits l.full.bits;
  others : (w : ℕ) → (w < l.from) ⊎ (l.to ≤ w) → item l.full.bits w ≡ item l.fn.full.bits w;
  same : l.changed ≡ false → l.full.bits ≡ l.fn.full.bits;
}
