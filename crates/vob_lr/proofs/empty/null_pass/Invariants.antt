-- The left sides of the rules so far were added, and become empty.
use Rattle.std.proofs.Common.{◌≡◌, length, take}
use Rattle.vob_lr.specs.Passes.{AddsNull, AreEmptied, IsNullClosed}
use Rattle.vob_lr.specs.Sizes.{AreSized}
use Rattle.vob_lr.proofs.empty.null_pass.Given as goal

abbrev pub invariant-loop-rule : goal.invariant-loop-rule
invariant-loop-rule l =
    record {
      len : length l.emptied.nullable.bits ≡ length l.fn.emptied.nullable.bits;
      long : length l.emptied.sizes.items ≡ length l.fn.emptied.sizes.items;
      adds : AddsNull (IsNullClosed (take l.rule-index l.rules)) l.fn.emptied.nullable.bits
          l.emptied.nullable.bits l.grew;
      sound : AreEmptied l.rules l.fn.emptied.nullable.bits → AreEmptied l.rules l.emptied.nullable.bits;
      sized : AreSized 18446744073709551615 l.rules l.fn.emptied.nullable.bits l.fn.emptied.sizes.items →
          AreSized 18446744073709551615 l.rules l.emptied.nullable.bits l.emptied.sizes.items;
    }
