-- The members of a set rise.
use Rattle.vob_lr.specs.Entered.{IsEntered}
use Rattle.files_text.proofs.PrintedLemmas.{members-rise}
use Rattle.files_grammar.proofs.SetTextLemmas.{members_those}
use Rattle.files_grammar.proofs.states.States.of.Goals as goal

pub invariant_of-result : goal.invariant_of-result
invariant_of-result c = rw c.in_ok-entered.ensures (members-rise c.in_ok-set.set.bits)

pub returns : goal.returns
returns c =
    rw c.in_ok-entered.ensures
    (members_those (IsEntered c.args.table.now) c.in_ok-set.set.bits c.in_ok-set.ensures.each)
