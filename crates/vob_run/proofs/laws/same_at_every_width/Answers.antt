-- Each step is the same at both widths.
use Rattle.vob_run.proofs.WidthLemmas as lemma
use Rattle.vob_run.proofs.laws.same_at_every_width.Goals as goal

pub returns : goal.returns
returns c = lemma.same_at_every_width
