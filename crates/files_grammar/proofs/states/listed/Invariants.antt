-- The members that are left are still to be added.
use Rattle.std.specs.Prelude.{◌≡◌, ◌++◌}
use Rattle.files_text.specs.Printed.{members}
use Rattle.files_grammar.proofs.states.listed.Given as goal

abbrev pub invariant-loop-member : goal.invariant-loop-member
invariant-loop-member l = record {
  can_next : goal.iterator-loop-member.can_next l.member-iterator;
  is_finite : goal.iterator-loop-member.is_finite l.member-iterator;
  added : l.list.items ++ l.member-iterator.rest ≡ members l.set.bits;
}
