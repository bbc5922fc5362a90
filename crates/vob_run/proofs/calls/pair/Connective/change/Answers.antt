-- By the call of each connective.
use Rattle.std.proofs.Common.{rules}
use Rattle.vob_run.proofs.calls.pair.Connective.change.Goals as goal

pub returns-in-And-clause-bits : goal.returns-in-And-clause-bits
returns-in-And-clause-bits g c = search rules

pub returns-in-Or-clause-bits : goal.returns-in-Or-clause-bits
returns-in-Or-clause-bits g c = search rules

pub returns-in-Xor-clause-bits : goal.returns-in-Xor-clause-bits
returns-in-Xor-clause-bits g c = search rules
