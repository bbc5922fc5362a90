-- The guards have seen no row.
use Rattle.files_filter.proofs.questions.Questions.new.Goals as goal

pub returns-clause-watched : goal.returns-clause-watched
returns-clause-watched g c = λ header. rw (c.deref-2.ensures.value) at c.in_ok-guards.ensures header
