-- What is in the set becomes empty, and each pass added a nonterminal.
use Rattle.std.proofs.Common.{◌≡◌, ◌-◌, true, length}
use Rattle.vob.specs.Bits.{count_of}
use Rattle.vob_lr.specs.Passes.{AreEmptied}
use Rattle.vob_lr.specs.Sizes.{AreSized}
use Rattle.vob_lr.proofs.empty.solve_emptied.Given as goal

abbrev pub invariant-passes : goal.invariant-passes
invariant-passes l =
    record {
      count : length l.emptied.nullable.bits ≡ l.grammar.nonterminals;
      sound : AreEmptied l.grammar.rules.items l.emptied.nullable.bits;
      sized : length l.fn.sizes.items ≡ l.grammar.nonterminals →
          AreSized 18446744073709551615 l.grammar.rules.items l.emptied.nullable.bits l.emptied.sizes.items;
    }

abbrev pub decreases-passes : goal.decreases-passes
decreases-passes l = length l.emptied.nullable.bits - count_of true l.emptied.nullable.bits
