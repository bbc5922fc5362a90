-- The place is that after the bytes so far, and each of them adds one line or one column at most.
use Rattle.std.proofs.Common.{◌≡◌, ◌+◌, ◌≤◌, take}
use Rattle.files_dot.specs.Places.{behind}
use Rattle.files_dot.proofs.place.behind.Given as goal

abbrev pub invariant-bytes : goal.invariant-bytes
invariant-bytes l = (l.at ≡ behind l.fn.place (take l.byte-index l.bytes))
    × (l.at.line ≤ l.fn.place.line + l.byte-index) × (l.at.column ≤ l.fn.place.column + l.byte-index)
