-- The number is past the places, or has one.
use Rattle.std.proofs.Common.{arith}
use Rattle.vob_flow.proofs.ChangesLemmas.{Gets-none}
use Rattle.vob_flow.proofs.lists.add_number.Goals as goal

pub returns-then-number-start-clause-got : goal.returns-then-number-start-clause-got
returns-then-number-start-clause-got c =
    Gets-none _ _ _ (λ j both. omega (arith, both.1, c.if-number-start.true))
