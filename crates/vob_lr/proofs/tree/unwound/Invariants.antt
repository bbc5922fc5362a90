-- The rules and the tokens that are left.
use Rattle.std.proofs.Common.{◌+◌, ◌-◌, length, reverse}
use Rattle.vob_lr.specs.Unwinding.{IsUnwound}
use Rattle.vob_lr.proofs.tree.unwound.Given as goal

abbrev pub invariant-forms : goal.invariant-forms
invariant-forms l =
    IsUnwound l.rules l.tokens l.parsed l.symbols l.form.items l.left (reverse l.moves.items)

abbrev pub decreases-forms : goal.decreases-forms
decreases-forms l = (length l.tokens + length l.parsed) - length l.moves.items
