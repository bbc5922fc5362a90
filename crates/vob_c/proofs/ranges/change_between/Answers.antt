-- By the lemmas on words that are changed within a range.
use Rattle.std.proofs.lemmas.List.{map-id}
use Rattle.vob_c.proofs.RangeLemmas.{changed_each, changed_list}
use Rattle.vob_c.proofs.ranges.change_between.Goals as goal

pub returns-clause-each : goal.returns-clause-each
returns-clause-each g c = changed_each _ _ _ c.requires.order c.requires.inside _ _
    c.requires.canonical (simp map-id at c.change_range.ensures.canonical)
    (simp map-id at c.change_range.ensures.ranged)

pub returns-clause-stores : goal.returns-clause-stores
returns-clause-stores g c = record {
  canonical = simp map-id at c.change_range.ensures.canonical;
  bits = changed_list _ _ _ c.requires.order c.requires.inside _ _ (returns-clause-each g c);
}
