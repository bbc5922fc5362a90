-- The bytes from the place on are those of the line.
use Rattle.std.specs.Prelude.{◌==◌, not}
use Rattle.std.proofs.Common.{◌≡◌, ◌+◌, ◌≤◌, length, take}
use Rattle.std.specs.List.{suffix_len}
use Rattle.files_csv.proofs.whole.column.Given as goal

abbrev pub invariant-loop-start : goal.invariant-loop-start
invariant-loop-start l = record {
  inside : l.start ≤ length l.text;
  line : l.start + suffix_len (λ byte. not (byte == 10)) l.text
      ≡ length l.text + suffix_len (λ byte. not (byte == 10)) (take l.start l.text);
}

abbrev pub decreases-loop-start : goal.decreases-loop-start
decreases-loop-start l = l.start
