-- What the deal at a fresh walk gives.
use Rattle.std.proofs.Common.{rules}
use Rattle.vob_run.proofs.calls.walk.dealt.Goals as goal

pub returns : goal.returns
returns g c = search rules
