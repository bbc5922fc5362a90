-- The first digits that differ decide.
use Rattle.std.proofs.Common.{arith, sym, ◌+◌, ◌∙◌, refl}
use Rattle.files_condition.specs.Padded.{digits_of}
use Rattle.files_condition.proofs.NumberLemmas.{after-equal, at-other}
use Rattle.files_condition.proofs.number.Number.order_of_digits.Goals as goal

pub returns-in_default : goal.returns-in_default
returns-in_default c =
    sym (c.loop-place.invariant ∙ at-other (digits_of c.args.self.now) (digits_of c.args.other.now)
    (c.args.from + c.loop-place.place) (c.args.other_from + c.loop-place.place) c.cmp.result
    (c.cmp.ensures ∙ rw (c.digit-first.ensures, c.digit.ensures) refl) c.in_default.not-Equal)

pub loop-place-preserved : goal.loop-place-preserved
loop-place-preserved c =
    c.loop-place.invariant ∙ after-equal (digits_of c.args.self.now) (digits_of c.args.other.now)
    (c.args.from + c.loop-place.place) (c.args.other_from + c.loop-place.place)
    (rw (← c.digit-first.ensures, ← c.digit.ensures) (sym c.cmp.ensures ∙ c.in-Equal.is))
    ∙ grind arith
