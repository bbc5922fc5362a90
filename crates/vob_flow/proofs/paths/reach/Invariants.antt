-- Each node that was reached waits, or all that its edges lead to were reached.
use Rattle.std.proofs.Common.{◌+◌, false, length}
use Rattle.vob.specs.Bits.{count_of}
use Rattle.vob_flow.specs.Reach.{AreOnTheWay}
use Rattle.vob_flow.proofs.paths.reach.Given as goal

abbrev pub invariant-turns : goal.invariant-turns
invariant-turns l = AreOnTheWay l.next l.from l.reached.bits l.waiting.items

abbrev pub decreases-turns : goal.decreases-turns
decreases-turns l = count_of false l.reached.bits + length l.waiting.items
