-- All bits before the first one have the other value.
use Rattle.std.proofs.Common.{false}
use Rattle.vob.proofs.BitsLemmas.{first_few, first_none}
use Rattle.vob.proofs.vob.Vob.first_unset.Goals as goal

pub returns-clause-most : goal.returns-clause-most
returns-clause-most g c =
    first_few false c.args.self.now.bits c.next_unset.result c.next_unset.ensures.next

pub returns-clause-none : goal.returns-clause-none
returns-clause-none g c =
    first_none false c.args.self.now.bits c.next_unset.result c.next_unset.ensures.next
