-- Each call took its step, which is the same at every width.
use Rattle.vob_run.proofs.WidthLemmas as lemma
use Rattle.vob_run.proofs.laws.run_is_its_steps.Goals as goal

pub returns : goal.returns
returns c = lemma.run_is_its_steps
