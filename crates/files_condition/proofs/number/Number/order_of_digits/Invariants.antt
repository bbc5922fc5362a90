-- The digits so far are equal.
use Rattle.std.proofs.Common.{◌≡◌, ◌+◌, drop}
use Rattle.files_condition.specs.Padded.{digits_of, padded_cmp}
use Rattle.files_condition.proofs.number.Number.order_of_digits.Given as goal

abbrev pub invariant-loop-place : goal.invariant-loop-place
invariant-loop-place l = padded_cmp (drop l.from (digits_of l.self)) (drop l.other_from (digits_of l.other))
    ≡ padded_cmp (drop (l.from + l.place) (digits_of l.self)) (drop (l.other_from + l.place) (digits_of l.other))
