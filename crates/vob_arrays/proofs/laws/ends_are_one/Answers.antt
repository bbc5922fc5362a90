-- A parser takes one way, by the law.
use Rattle.vob_arrays.proofs.EndLemmas.{ends}
use Rattle.vob_arrays.proofs.laws.ends_are_one.Goals as goal

pub returns : goal.returns
returns c = λ table sound tokens. ends c.steps_are_one.ensures table sound tokens
