-- The head, the nodes and the end are written one after another.
use Rattle.files_text.proofs.PrintedLemmas.{Appends-both}
use Rattle.files_parse.proofs.tree.WordTree.put_dot.Goals as goal

pub returns : goal.returns
returns g c =
    Appends-both _ _ _ _ _ (Appends-both _ _ _ _ _ c.in_ok-write_all.ensures.bytes c.in_ok-put_nodes.ensures)
    c.in_ok-write_all-2.ensures.bytes
