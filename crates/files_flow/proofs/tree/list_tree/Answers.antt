-- The edges stand between the nodes and the end.
use Rattle.std.proofs.Common.{refl}
use Rattle.files_text.proofs.PrintedLemmas.{Appends-both}
use Rattle.files_flow.proofs.tree.list_tree.Goals as goal

pub returns-clause-ok : goal.returns-clause-ok
returns-clause-ok g c =
    let (edges, appended, lines) = c.in_ok-list_edges.ensures.ok in (
      _,
      Appends-both _ _ _ _ _ (Appends-both _ _ _ _ _ (Appends-both _ _ _ _ _ c.in_ok-write_all.ensures.bytes c.in_ok-put_nodes.ensures)
          appended) c.in_ok-write_all-2.ensures.bytes,
      record { edges = edges; lines = lines; is = refl },
    )
