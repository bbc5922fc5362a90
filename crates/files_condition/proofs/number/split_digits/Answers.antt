-- What is taken are digits.
use Rattle.files_condition.proofs.NumberLemmas.{digits-all}
use Rattle.files_condition.proofs.number.split_digits.Goals as goal

pub returns-clause-all : goal.returns-clause-all
returns-clause-all c = rw c.digits-count.ensures.count (digits-all c.args.text.now)
