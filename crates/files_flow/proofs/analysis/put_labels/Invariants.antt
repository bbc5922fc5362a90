-- The labels of the places so far are written.
use Rattle.std.proofs.Common.{drop}
use Rattle.files_flow.specs.FlowForms.{label_item}
use Rattle.files_flow.specs.Problems.{lists_of}
use Rattle.files_text.proofs.PrintedLemmas.{AppendsItems}
use Rattle.files_flow.proofs.analysis.put_labels.Given as goal

abbrev pub invariant-loop-place : goal.invariant-loop-place
invariant-loop-place g l =
    AppendsItems (label_item l.json (lists_of l.labels) l.first)
    (g.W.Write.contents l.fn.output) (g.W.Write.contents l.output) l.places (drop l.place-index l.places)
