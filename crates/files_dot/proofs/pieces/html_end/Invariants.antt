-- Some bracket is open after each of the bytes so far.
use Rattle.std.proofs.Common.{◌≡◌, ◌+◌, ◌<◌, ◌≤◌, ℕ, take}
use Rattle.std.specs.List.{fold}
use Rattle.files_dot.specs.Pieces.{IsHtmlEnd, open_after}
use Rattle.files_dot.proofs.pieces.html_end.Given as goal

abbrev pub invariant-bytes : goal.invariant-bytes
invariant-bytes l = (l.open_ones ≡ fold open_after 1 (take l.i l.text)) × (0 < l.open_ones)
    × (l.open_ones ≤ l.i + 1) × ((j : ℕ) → j < l.i + 1 → ¬ IsHtmlEnd l.text j)
