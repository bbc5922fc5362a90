-- The nodes before each are in range.
use Rattle.std.proofs.Common.{◌∙◌, ap, length}
use Rattle.files_flow.specs.Problems.{lists_of}
use Rattle.files_flow.proofs.FromLemmas.{from_count, from_lead}
use Rattle.files_flow.proofs.dot.print_graph.Goals as goal

pub list_in-requires : goal.list_in-requires
list_in-requires g c =
    let are = rw (c.len.ensures, c.deref.ensures.value) at c.in_ok-before.ensures in
    record {
      reads = c.requires.reads;
      nodes = ap length c.deref-2.ensures.value ∙ from_count _ _ c.requires.inside c.in_ok-before.before.items are;
      edges = rw c.deref-2.ensures.value (from_lead _ _ c.requires.inside c.in_ok-before.before.items are);
    }

pub returns-clause-ok : goal.returns-clause-ok
returns-clause-ok g c = (
  lists_of c.in_ok-before.before.items,
  rw (c.len.ensures, c.deref.ensures.value) at c.in_ok-before.ensures,
  rw c.deref-2.ensures.value at c.in_ok-list_in.ensures.ok,
)
