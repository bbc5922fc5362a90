-- A new walk has all indices that match.
use Rattle.std.proofs.lemmas.List.{map-id}
use Rattle.vob_c.proofs.indices.found_indices.Goals as goal

pub returns-then-value : goal.returns-then-value
returns-then-value c =
    let whole = rw c.new-blocks.ensures.items at (simp map-id at (c.over.ensures.whole tt)) in
    rw (c.if-value.true, ← whole.rest) c.write_set.ensures

pub returns-else-value : goal.returns-else-value
returns-else-value c =
    let whole = rw c.new-blocks.ensures.items at
    (simp map-id at (c.over-else-value.ensures.whole tt)) in
    rw (c.if-value.false, ← whole.rest) c.write_unset.ensures
