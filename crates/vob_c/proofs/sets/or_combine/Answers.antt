-- Both others combined are words too, which are added.
use Rattle.std.proofs.lemmas.List.{map-id}
use Rattle.vob_c.proofs.CombineLemmas.{added_stores, added_changes}
use Rattle.vob_c.proofs.sets.or_combine.Goals as goal

pub returns-clause-bits : goal.returns-clause-bits
returns-clause-bits g c =
    let all = (c.status_of_three-status.ensures.ok.0 c.if-status-ne-OK.false).1 in
    λ _. added_stores g.C.Combine.of_bits c.requires.none _ _ _ _ _ _ all.0 all.1 all.2
    (rw (c.new.ensures.items, c.new-2.ensures.items) at (simp map-id at c.or_combined.ensures))

pub returns-clause-changed : goal.returns-clause-changed
returns-clause-changed g c =
    let all = (c.status_of_three-status.ensures.ok.0 c.if-status-ne-OK.false).1 in
    λ _. added_changes g.C.Combine.of_bits c.requires.none _ _ _ _ _ _ all.0 all.1 all.2
    (rw (c.new.ensures.items, c.new-2.ensures.items) at (simp map-id at c.or_combined.ensures))
