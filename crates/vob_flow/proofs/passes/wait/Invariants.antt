-- The sets so far wait.
use Rattle.std.proofs.Common.{◌≡◌, ◌↔◌, ◌⊎◌, ℕ, length, take, true}
use Rattle.std.specs.List.{Any}
use Rattle.vob_block.specs.Packing.{item}
use Rattle.vob_flow.specs.Schedules.{place_of}
use Rattle.vob_flow.proofs.passes.wait.Given as goal

abbrev pub invariant-loop-user : goal.invariant-loop-user
invariant-loop-user l = record {
  len : length l.pending.bits ≡ length l.fn.pending.bits;
  each : (p : ℕ) → (item l.pending.bits p ≡ true) ↔ ((item l.fn.pending.bits p ≡ true)
      ⊎ Any (λ user. place_of l.places user ≡ p) (take l.user-index l.users));
}
