-- What the first byte begins is next.
use Rattle.files_condition.proofs.WordsLemmas.{nothing_left}
use Rattle.files_condition.proofs.words.Words.take.Goals as goal

pub returns-in_default-clause-ok : goal.returns-in_default-clause-ok
returns-in_default-clause-ok c =
    nothing_left c.args.self.now.at c.args.self.now.rest.now (rw c.in_default.is at c.first.ensures.value)
