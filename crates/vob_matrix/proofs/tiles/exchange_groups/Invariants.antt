-- The pairs of words so far exchanged their groups.
use Rattle.std.proofs.Common.{◌≡◌, ℕ, ◌*◌}
use Rattle.vob_matrix.specs.Tiles.{AreExchanged, IsMask}
use Rattle.vob_matrix.proofs.tiles.exchange_groups.Given as goal

abbrev pub invariant-loop-c : goal.invariant-loop-c
invariant-loop-c l = (pairs : ℕ) → pairs * (2 * l.group) ≡ 64 → IsMask l.group pairs l.mask →
    AreExchanged l.group pairs l.first l.c l.fn.words l.words
