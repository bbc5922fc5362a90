-- The last symbols gave what can begin them.
use Rattle.std.proofs.Common.{◌≡◌, ◌-◌, drop, length}
use Rattle.vob_lr.specs.Behind.{IsTrailer}
use Rattle.vob_lr.proofs.flows.Flows.begin.Given as goal

abbrev pub invariant-loop-back : goal.invariant-loop-back
invariant-loop-back l = record {
  len : length l.begins.bits ≡ length l.fn.begins.bits;
  trailer : IsTrailer l.self.grammar.rules.items
      (drop (length l.rule.right.items - l.back) l.rule.right.items) l.begins.bits l.empty;
}
