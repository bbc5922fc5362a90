-- The rules that are too many so far, up to the greatest number.
use Rattle.std.specs.Prelude.{◌≡◌, min, take}
use Rattle.std.below.core.specs.declared.int.usize.TheConstants.{MAX}
use Rattle.files_grammar.specs.ConflictText.{rule_count}
use Rattle.files_grammar.proofs.conflicts.count_rules.Given as goal

abbrev pub invariant-loop-place : goal.invariant-loop-place
invariant-loop-place l = l.count ≡ min (rule_count (take l.place l.choices)) MAX
