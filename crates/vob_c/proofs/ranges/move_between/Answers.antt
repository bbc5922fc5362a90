-- By the lemmas on words that are written over others.
use Rattle.std.proofs.lemmas.List.{map-id}
use Rattle.vob_c.proofs.RangeLemmas.{copied_each, copied_stores, words_inside}
use Rattle.vob_c.proofs.ranges.move_between.Goals as goal

pub move_bits-requires-clause-inside : goal.move_bits-requires-clause-inside
move_bits-requires-clause-inside c = words_inside _ _ _ c.requires.canonical c.requires.inside

pub move_bits-requires-clause-source : goal.move_bits-requires-clause-source
move_bits-requires-clause-source c = words_inside _ _ _ c.requires.canonical c.requires.source

pub returns-clause-stores : goal.returns-clause-stores
returns-clause-stores c = copied_stores _ _ _ _ _ _ _ _ c.requires.canonical c.requires.canonical
    c.requires.inside c.move_bits.auto.own (simp map-id at c.move_bits.ensures.within)
    (simp map-id at c.move_bits.ensures.moved) c.requires.source

pub returns-clause-each : goal.returns-clause-each
returns-clause-each c = copied_each _ _ _ _ _ _ _ _ c.requires.canonical c.requires.canonical
    c.requires.inside c.move_bits.auto.own (simp map-id at c.move_bits.ensures.within)
    (simp map-id at c.move_bits.ensures.moved)
