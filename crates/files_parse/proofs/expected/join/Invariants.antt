-- The items that are left are still to come.
use Rattle.std.proofs.Common.{◌≡◌, ◌++◌, drop, map}
use Rattle.std.specs.String.{string_bytes}
use Rattle.files_parse.specs.Fitting.{joined}
use Rattle.files_parse.proofs.expected.join.Given as goal

abbrev pub invariant-loop-place : goal.invariant-loop-place
invariant-loop-place l =
    string_bytes l.text ++ joined (map (λ item. string_bytes item) (drop l.place l.items))
    ≡ joined (map (λ item. string_bytes item) l.items)
