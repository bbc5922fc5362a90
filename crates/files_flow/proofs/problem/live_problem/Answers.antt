-- Each list is what its call returned.
use Rattle.std.proofs.Common.{refl}
use Rattle.files_flow.proofs.problem.live_problem.Goals as goal

pub returns : goal.returns
returns c = record {
  paths = refl;
  backward = refl;
  labels = c.in_ok-labels.ensures;
  generates = rw c.deref.ensures.value at c.in_ok-lists.ensures.reads;
  by_variable = rw c.len.ensures at c.in_ok-by_variable.ensures;
  writes = rw c.deref.ensures.value at c.in_ok-lists.ensures.writes;
  from = rw c.deref.ensures.value at c.in_ok-lists.ensures.next;
}
