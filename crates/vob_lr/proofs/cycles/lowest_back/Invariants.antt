-- From no node so far an edge leads back.
use Rattle.std.proofs.Common.{ℕ, ◌<◌}
use Rattle.vob_lr.specs.Units.{LeadsBack}
use Rattle.vob_lr.proofs.cycles.lowest_back.Given as goal

abbrev pub invariant-loop-node : goal.invariant-loop-node
invariant-loop-node l = (n : ℕ) → n < l.node → ¬ LeadsBack l.graph l.roots n
