-- The moves so far keep the lookaheads.
use Rattle.vob_lr.specs.Equations.{GainEach}
use Rattle.vob_lr.specs.Flows.{IsKeptAt}
use Rattle.vob_lr.specs.Walked.{IsOfFirst}
use Rattle.vob_lr.proofs.flows.Flows.keep.Given as goal

abbrev pub invariant-loop-step : goal.invariant-loop-step
invariant-loop-step l =
    GainEach (IsOfFirst l.step (IsKeptAt l.self l.state l.number l.symbol))
    l.fn.equations l.equations
