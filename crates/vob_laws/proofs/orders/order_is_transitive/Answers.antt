-- By the order of two bits.
use Rattle.vob_laws.proofs.OrderLawsLemmas.{order_transitive}
use Rattle.vob_laws.proofs.orders.order_is_transitive.Goals as goal

pub returns : goal.returns
returns c = order_transitive
