-- The names so far.
use Rattle.std.proofs.Common.{◌≡◌, take}
use Rattle.files_text.specs.Names.{names_in}
use Rattle.files_dot.specs.Held.{names_of}
use Rattle.files_dot.proofs.nodes.numbered.Given as goal

abbrev pub invariant-mentions : goal.invariant-mentions
invariant-mentions l = l.names ≡ names_in (names_of (take l.name-index l.mentions))
