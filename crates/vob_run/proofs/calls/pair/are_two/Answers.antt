-- By the three tests.
use Rattle.std.proofs.Common.{rules}
use Rattle.vob_run.proofs.calls.pair.are_two.Goals as goal

pub returns-then-which-vobs : goal.returns-then-which-vobs
returns-then-which-vobs g c = search rules

pub returns-else-which-vobs : goal.returns-else-which-vobs
returns-else-which-vobs g c = search rules
