-- The search is for the bits.
use Rattle.std.proofs.Common.{arith}
use Rattle.vob.proofs.SetsLemmas.{IsNext-inside}
use Rattle.vob_slots.proofs.SummaryLemmas.{next_below}
use Rattle.vob_slots.proofs.summary.Summarized.first_unset.Goals as goal

pub returns-clause-next : goal.returns-clause-next
returns-clause-next c = rw c.search.ensures.bits at c.first_unset.ensures.next

pub returns-clause-inside : goal.returns-clause-inside
returns-clause-inside c = IsNext-inside _ _ _ _ (returns-clause-next c)

pub returns-clause-most : goal.returns-clause-most
returns-clause-most c =
    next_below c.args.self.now c.first_unset.result _ (returns-clause-next c) (omega (arith, c.len-len.ensures))
