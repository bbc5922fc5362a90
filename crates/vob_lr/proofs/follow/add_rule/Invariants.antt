-- The last symbols gave what stands behind nonterminals among them.
use Rattle.std.proofs.Common.{◌≡◌, ◌-◌, drop, length}
use Rattle.vob_lr.specs.Behind.{IsBehind, IsTrailer}
use Rattle.vob_lr.specs.Equations.{GainEach}
use Rattle.vob_lr.proofs.follow.add_rule.Given as goal

abbrev pub invariant-loop-back : goal.invariant-loop-back
invariant-loop-back l =
    let right = l.rule.right.items in
    let last = drop (length right - l.back) right in
    record {
      len : length l.begins.bits ≡ length l.fn.begins.bits;
      trailer : IsTrailer l.grammar.rules.items last l.begins.bits l.empty;
      behind : GainEach (IsBehind l.grammar.rules.items l.rule.left last)
          l.fn.equations l.equations;
    }
