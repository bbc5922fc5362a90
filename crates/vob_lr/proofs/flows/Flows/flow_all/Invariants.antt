-- The states so far flow.
use Rattle.std.proofs.Common.{◌≡◌, length}
use Rattle.vob_lr.specs.Equations.{GainEach}
use Rattle.vob_lr.specs.Flows.{FlowsOf}
use Rattle.vob_lr.specs.Walked.{IsOfFirst}
use Rattle.vob_lr.proofs.flows.Flows.flow_all.Given as goal

abbrev pub invariant-loop-state : goal.invariant-loop-state
invariant-loop-state l = record {
  len : length l.begins.bits ≡ length l.fn.begins.bits;
  flows : GainEach (IsOfFirst l.state (λ q n y. FlowsOf l.self q n y))
      l.fn.equations l.equations;
}
