-- The items so far flow.
use Rattle.std.proofs.Common.{◌≡◌, [], length, slice_index_or}
use Rattle.vob_lr.specs.Equations.{GainEach}
use Rattle.vob_lr.specs.Flows.{FlowsFrom}
use Rattle.vob_lr.specs.Walked.{IsOfFirst}
use Rattle.vob_lr.proofs.flows.Flows.flow_state.Given as goal

abbrev pub invariant-loop-place : goal.invariant-loop-place
invariant-loop-place l = record {
  len : length l.begins.bits ≡ length l.fn.begins.bits;
  flows : GainEach (IsOfFirst l.place (λ k. FlowsFrom l.self l.state
      (slice_index_or (slice_index_or l.self.sets l.state []) k 0))) l.fn.equations l.equations;
}
