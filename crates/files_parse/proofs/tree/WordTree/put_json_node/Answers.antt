-- The comma, the name, the fields and the span are written one after another.
use Rattle.files_text.proofs.PrintedLemmas.{Appends-both}
use Rattle.files_parse.proofs.tree.WordTree.put_json_node.Goals as goal

pub returns : goal.returns
returns g c =
    Appends-both _ _ _ _ _ c.in_ok-put_between.ensures
    (Appends-both _ _ _ _ _
    (Appends-both _ _ _ _ _ (rw c.requires at c.in_ok-write.ensures.bytes) c.in_ok-put_fields.ensures)
    c.in_ok-put_span.ensures)
