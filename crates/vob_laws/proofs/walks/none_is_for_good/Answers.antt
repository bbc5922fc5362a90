-- A pull that gave nothing was at an empty list, and left it empty.
use Rattle.vob_walk.proofs.PullLemmas.{none_for_good}
use Rattle.vob_laws.proofs.walks.none_is_for_good.Goals as goal

pub returns : goal.returns
returns c = none_for_good
