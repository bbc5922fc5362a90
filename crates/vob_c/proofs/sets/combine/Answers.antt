-- By the lemma on words combined.
use Rattle.std.proofs.lemmas.List.{map-id}
use Rattle.vob_c.proofs.CombineLemmas.{combined_stores, combined_changes}
use Rattle.vob_c.proofs.sets.combine.Goals as goal

pub returns-clause-bits : goal.returns-clause-bits
returns-clause-bits g c =
    let both = (c.status_of_two-status.ensures.ok.0 c.if-status-ne-OK.false).1 in
    λ _. combined_stores g.C.Combine.of_bits c.requires.none _ _ _ _ c.combine_into.result both.0
    both.1 (rw c.new.ensures.items at (simp map-id at c.combine_into.ensures.combined))

pub returns-clause-changed : goal.returns-clause-changed
returns-clause-changed g c =
    let both = (c.status_of_two-status.ensures.ok.0 c.if-status-ne-OK.false).1 in
    λ _. combined_changes g.C.Combine.of_bits c.requires.none _ _ _ _ c.combine_into.result both.0
    both.1 (rw c.new.ensures.items at (simp map-id at c.combine_into.ensures.combined))
