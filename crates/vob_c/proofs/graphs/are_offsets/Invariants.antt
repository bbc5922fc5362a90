-- No offset so far is above the next one.
use Rattle.std.proofs.Common.{ℕ, ◌+◌, ◌<◌, ◌≤◌, get_or}
use Rattle.vob_c.proofs.graphs.are_offsets.Given as goal

abbrev pub invariant-loop-node : goal.invariant-loop-node
invariant-loop-node l =
    (n : ℕ) → n < l.node → get_or l.offsets n 0 ≤ get_or l.offsets (n + 1) 0
