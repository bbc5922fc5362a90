-- The first nodes among the last ones.
use Rattle.std.proofs.Common.{◌-◌, length}
use Rattle.files_graph.specs.Parts.{AreFirsts}
use Rattle.files_graph.proofs.parts.firsts_of.Given as goal

abbrev pub invariant-loop-back : goal.invariant-loop-back
invariant-loop-back l = AreFirsts l.numbers (length l.numbers - l.back) l.firsts.items
