use Rattle.std.proofs.Common.{◌≡◌, ℕ, ◌<◌, ◌≤◌, length, get_or}
use Rattle.vob_store.proofs.bytes.eight_bytes.Given as goal

abbrev pub invariant-loop-k : goal.invariant-loop-k
invariant-loop-k l = record {
  length : length l.all ≡ 8;
  before : (k : ℕ) → k < l.k → get_or l.all k 0 ≡ get_or l.bytes k 0;
  behind : (k : ℕ) → l.k ≤ k → get_or l.all k 0 ≡ 0;
}
