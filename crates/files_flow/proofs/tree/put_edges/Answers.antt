-- The edge to the next node is written.
use Rattle.std.proofs.Common.{[], ◌++◌, refl}
use Rattle.files_text.proofs.PrintedLemmas.{Appends-both, Appends-none}
use Rattle.files_flow.specs.FlowText.AreLines.{none, more}
use Rattle.files_flow.proofs.tree.put_edges.Goals as goal

pub loop-node-init : goal.loop-node-init
loop-node-init g c = λ before tree. ([], Appends-none _, none)

pub loop-node-preserved : goal.loop-node-preserved
loop-node-preserved g c = λ before tree.
    let (text, appended, lines) = c.loop-node.invariant before tree in (
      text ++ _,
      Appends-both _ _ _ _ _ appended c.in_ok-put_edge.ensures,
      more lines record { above = _; immediate = c.immediate.ensures before 0 tree; is = refl },
    )
