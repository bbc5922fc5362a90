-- No entry so far is of the symbol.
use Rattle.std.proofs.Common.{◌≡◌, ℕ, ◌<◌, ◌≤◌, get_or}
use Rattle.vob_arrays.proofs.arrays.Arrays.entry.Given as goal

abbrev pub invariant-loop-place : goal.invariant-loop-place
invariant-loop-place l =
    (k : ℕ) → l.start ≤ k → k < l.place → get_or l.self-inside.symbols.now k 0 ≡ l.symbol → ⊥
