-- The names so far.
use Rattle.std.proofs.Common.{◌≡◌, take}
use Rattle.files_dot.specs.Held.{names_of}
use Rattle.files_dot.proofs.nodes.listed.Given as goal

abbrev pub invariant-numbers : goal.invariant-numbers
invariant-numbers l = names_of l.all.items ≡ take l.number l.names
