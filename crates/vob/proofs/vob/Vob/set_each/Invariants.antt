-- The indices so far are below the length, and the bits at them are set.
use Rattle.std.proofs.Common.{◌≡◌, ℕ, ◌<◌, length, get_or}
use Rattle.vob.specs.Indices.{HasSet}
use Rattle.vob.proofs.vob.Vob.set_each.Given as goal

abbrev pub invariant-loop-position : goal.invariant-loop-position
invariant-loop-position g l = record {
  set : HasSet l.fn.indices l.position l.fn.self.bits l.self.bits;
  lower : (k : ℕ) → k < l.position → get_or l.fn.indices k 0 < length l.fn.self.bits;
  capacity : l.self.capacity ≡ l.fn.self.capacity;
}
