-- The first test that fails gives the status.
use Rattle.std.proofs.Common.{◌∙◌, refl, sym}
use Rattle.std.proofs.lemmas.Bool.{false≢true}
use Rattle.std.proofs.lemmas.List.{map-id}
use Rattle.vob_c.proofs.StatusLemmas.{tells_length, tells_not_canonical, tells_ok}
use Rattle.vob_c.proofs.status.status_of.Goals as goal

pub returns-then-words-block_count : goal.returns-then-words-block_count
returns-then-words-block_count c =
    tells_length (λ same. c.if-words-block_count.true (same ∙ sym c.block_count.ensures))

pub returns-then-is_canonical : goal.returns-then-is_canonical
returns-then-is_canonical c =
    let stored = simp map-id at (c.if-is_canonical.ensures.0 refl) in
    tells_ok stored.count stored

pub returns-else-is_canonical : goal.returns-else-is_canonical
returns-else-is_canonical c = tells_not_canonical (c.if-words-block_count.false ∙ c.block_count.ensures)
    (λ stored. absurd (false≢true (c.if-is_canonical.ensures.1 (simp map-id stored))))
