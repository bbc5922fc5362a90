-- The rules so far opened.
use Rattle.vob_lr.specs.Equations.{GainEach}
use Rattle.vob_lr.specs.Expansions.{HasOpening}
use Rattle.vob_lr.proofs.closure.open_rules.Given as goal

abbrev pub invariant-loop-number : goal.invariant-loop-number
invariant-loop-number l =
    GainEach (HasOpening l.grammar.rules.items l.number) l.fn.equations l.equations
