-- The nodes and the roots are written one after another.
use Rattle.files_text.proofs.PrintedLemmas.{Appends-both}
use Rattle.files_parse.proofs.tree.WordTree.put_json.Goals as goal

pub returns-clause-ok : goal.returns-clause-ok
returns-clause-ok g c =
    Appends-both _ _ _ _ _
    (Appends-both _ _ _ _ _
    (Appends-both _ _ _ _ _
    (Appends-both _ _ _ _ _ c.in_ok-write_all.ensures.bytes c.in_ok-put_json_nodes.ensures)
    c.in_ok-write_all-2.ensures.bytes) c.in_ok-put_roots.ensures) c.in_ok-write_all-3.ensures.bytes
