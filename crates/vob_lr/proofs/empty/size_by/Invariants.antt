-- The symbols so far become empty by fewer rules.
use Rattle.std.proofs.Common.{Bool, List, take}
use Rattle.std.specs.List.{All, Contains}
use Rattle.vob_lr.specs.Passes.{IsNull}
use Rattle.vob_lr.specs.Sizes.{AreSized, BecomeEmptyBelow}
use Rattle.vob_lr.specs.declared.grammar.Rule.{Rule}
use Rattle.vob_lr.proofs.empty.size_by.Given as goal

abbrev pub invariant-loop-place : goal.invariant-loop-place
invariant-loop-place l = (rules : List Rule) (nullable : List Bool) → Contains rules l.rule →
    AreSized 18446744073709551615 rules nullable l.sizes → All (IsNull nullable) l.rule.right.items →
    BecomeEmptyBelow 18446744073709551615 rules (take l.place l.rule.right.items) l.size
