-- The weight of the symbols so far, which is at most as many.
use Rattle.std.proofs.Common.{◌≡◌, ◌≤◌, take}
use Rattle.vob_lr.specs.Units.{total_weight}
use Rattle.vob_lr.proofs.cycles.weigh_all.Given as goal

abbrev pub invariant-loop-symbol : goal.invariant-loop-symbol
invariant-loop-symbol l =
    (l.total ≡ total_weight l.nullable.bits (take l.symbol-index l.symbols)) × (l.total ≤ l.symbol-index)
