-- The nodes from one on are on top.
use Rattle.std.proofs.Common.{◌≡◌, ◌++◌, drop, reverse}
use Rattle.files_parse.specs.TreeLines.{on_level}
use Rattle.files_parse.proofs.lines.put_on_top.Given as goal

abbrev pub invariant-loop-place : goal.invariant-loop-place
invariant-loop-place l =
    reverse l.stack.items ≡ on_level l.level (drop l.place l.nodes) ++ reverse l.fn.stack.items
