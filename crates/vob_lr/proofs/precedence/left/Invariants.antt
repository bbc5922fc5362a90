-- The rules so far stay beside what is left of the shift and the others.
use Rattle.std.proofs.Common.{◌≡◌, None, slice_index_or, drop}
use Rattle.vob_lr.specs.Precedences.{beside_all, left_of, stays}
use Rattle.vob_lr.proofs.precedence.left.Given as goal

abbrev pub invariant-loop-place : goal.invariant-loop-place
invariant-loop-place l =
    left_of (λ r. stays (slice_index_or l.precedences r None) l.terminal) l.state l.rules
    ≡ beside_all l.kept.items
    (left_of (λ r. stays (slice_index_or l.precedences r None) l.terminal) l.state
    (drop l.place l.rules))
