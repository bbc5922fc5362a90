-- One edge more.
use Rattle.std.proofs.Common.{refl}
use Rattle.vob_lr.proofs.EquationLemmas.{GainEach-edge}
use Rattle.vob_lr.proofs.equations.Equations.draw.Goals as goal

pub returns : goal.returns
returns c = rw (← c.self.view_is) (GainEach-edge _ _ c.args.set c.args.from refl refl c.in_ok-push.ensures.items)
