-- All bits before the first one have the other value.
use Rattle.std.proofs.Common.{true}
use Rattle.vob.proofs.BitsLemmas.{first_few, first_none}
use Rattle.vob.proofs.vob.Vob.first_set.Goals as goal

pub returns-clause-most : goal.returns-clause-most
returns-clause-most g c =
    first_few true c.args.self.now.bits c.next_set.result c.next_set.ensures.next

pub returns-clause-none : goal.returns-clause-none
returns-clause-none g c =
    first_none true c.args.self.now.bits c.next_set.result c.next_set.ensures.next
