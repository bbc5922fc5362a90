-- The symbols from here on are left.
use Rattle.std.proofs.Common.{drop}
use Rattle.vob_lr.specs.Equations.{At, GainEachRest}
use Rattle.vob_lr.specs.Heads.{IsHead}
use Rattle.vob_lr.proofs.first.add_heads.Given as goal

abbrev pub invariant-loop-symbol : goal.invariant-loop-symbol
invariant-loop-symbol l =
    GainEachRest (At l.left (IsHead l.nullable.bits l.right))
    (At l.left (IsHead l.nullable.bits (drop l.symbol-index l.right))) l.fn.equations l.equations
