-- A number's digits are digits.
use Rattle.std.proofs.Common.{arith}
use Rattle.files_condition.proofs.NumberLemmas.{all-append}
use Rattle.files_condition.proofs.number.Number.of.Goals as goal

pub invariant_of-result : goal.invariant_of-result
invariant_of-result c = (
  omega (arith, c.split_digits.ensures.len, c.split_fraction.ensures.len),
  all-append c.split_digits.result.0.now c.split_fraction.result.0.now c.split_digits.ensures.all c.split_fraction.ensures.all,
)
