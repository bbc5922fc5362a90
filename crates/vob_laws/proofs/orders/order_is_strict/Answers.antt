-- By the bits, one after another.
use Rattle.vob_laws.proofs.OrderLawsLemmas.{order_strict}
use Rattle.vob_laws.proofs.orders.order_is_strict.Goals as goal

pub returns : goal.returns
returns c = order_strict
