-- The bytes so far are those of the array, turned.
use Rattle.std.proofs.Common.{◌≡◌, ℕ, ◌+◌, ◌-◌, ◌<◌, if◌then◌else◌, get_or, length}
use Rattle.vob_block.specs.Places.{place}
use Rattle.vob_c.proofs.bytes.word_at.Given as goal

abbrev pub invariant-loop-j : goal.invariant-loop-j
invariant-loop-j l = record {
  long : length l.eight ≡ 8;
  small : (k : ℕ) → get_or l.eight k 0 < 256;
  each : (k : ℕ) → k < l.j → (p : ℕ) → p < 8 → place p (get_or l.eight k 0)
      ≡ place (if l.most_first then 7 - p else p) (get_or l.bytes (l.at + k) 0);
}
