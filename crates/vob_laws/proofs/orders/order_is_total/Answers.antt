-- By the three answers.
use Rattle.vob_laws.proofs.OrderLawsLemmas.{order_total}
use Rattle.vob_laws.proofs.orders.order_is_total.Goals as goal

pub returns : goal.returns
returns c = order_total
