-- The sets looked at so far were seen.
use Rattle.std.proofs.Common.{◌≡◌, ℕ, ◌<◌, ◌≤◌, true, get_or}
use Rattle.vob_block.specs.Packing.{item}
use Rattle.vob_flow.proofs.order.next_unseen.Given as goal

abbrev pub invariant-loop-k : goal.invariant-loop-k
invariant-loop-k l = (j : ℕ) → l.looked ≤ j → j < l.k → item l.seen.bits (get_or l.from j 0) ≡ true
