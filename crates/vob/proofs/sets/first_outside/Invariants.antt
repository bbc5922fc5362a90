-- The indices so far are below the length.
use Rattle.std.proofs.Common.{ℕ, ◌<◌, get_or}
use Rattle.vob.proofs.sets.first_outside.Given as goal

abbrev pub invariant-loop-position : goal.invariant-loop-position
invariant-loop-position l = record {
  lower : (k : ℕ) → k < l.position → get_or l.fn.indices k 0 < l.len;
}
