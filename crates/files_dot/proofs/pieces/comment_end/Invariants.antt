-- No comment ends before the place at hand.
use Rattle.std.proofs.Common.{ℕ, ◌<◌}
use Rattle.files_dot.specs.Pieces.{IsCommentEnd}
use Rattle.files_dot.proofs.pieces.comment_end.Given as goal

abbrev pub invariant-places : goal.invariant-places
invariant-places l = (j : ℕ) → j < l.k → ¬ IsCommentEnd l.text j
