-- The terminals before the next are named.
use Rattle.std.proofs.Common.{◌≡◌, map, take}
use Rattle.std.specs.String.{string_bytes}
use Rattle.files_parse.specs.Fitting.{shown}
use Rattle.files_parse.proofs.expected.items.Given as goal

abbrev pub invariant-loop-place : goal.invariant-loop-place
invariant-loop-place l = map (λ item. string_bytes item) l.items.items ≡ map (shown l.names) (take l.place l.terminals)
