-- All digits are 0 exactly if the number is.
use Rattle.std.proofs.Common.{arith, sym, ◌∙◌}
use Rattle.std.proofs.lemmas.Bool.Decides.{nat_tests}
use Rattle.files_condition.specs.Padded.{digits_of}
use Rattle.files_condition.proofs.NumberLemmas.{all-zeros, is-zero-if}
use Rattle.files_condition.proofs.number.Number.is_zero.Goals as goal

pub returns : goal.returns
returns c = (
  λ same. all-zeros (digits_of c.args.self.now) c.zeros.ensures.digits
      (sym c.zeros.ensures.count ∙ grind (arith, nat_tests, same) ∙ c.len.ensures),
  λ none. grind (
    arith,
    nat_tests,
    c.zeros.ensures.count,
    c.len.ensures,
    is-zero-if (digits_of c.args.self.now) c.zeros.ensures.digits (omega (arith, c.zeros.ensures.count, c.zeros.ensures.within)) none,
  ),
)
