-- The kernel's clauses on words are those on bits.
use Rattle.std.proofs.Common.{refl}
use Rattle.std.proofs.lemmas.List.{map-id}
use Rattle.vob_c.proofs.MovesLemmas.{turned_canonical, turned_each}
use Rattle.vob_c.proofs.RangeLemmas.{words_inside}
use Rattle.vob_c.proofs.moves.reverse_between.Goals as goal

pub reverse_bits_between-requires-clause-halvable : goal.reverse_bits_between-requires-clause-halvable
reverse_bits_between-requires-clause-halvable c = (6, refl)

pub reverse_bits_between-requires-clause-inside : goal.reverse_bits_between-requires-clause-inside
reverse_bits_between-requires-clause-inside c = words_inside _ _ _ c.requires.canonical
    c.requires.inside

pub returns-clause-canonical : goal.returns-clause-canonical
returns-clause-canonical c = turned_canonical _ _ _ _ _ c.requires.canonical c.requires.inside
    c.reverse_bits_between.auto.own (simp map-id at c.reverse_bits_between.ensures.within)
    (simp map-id at c.reverse_bits_between.ensures.reversed)

pub returns-clause-each : goal.returns-clause-each
returns-clause-each c = turned_each _ _ _ _ _ c.requires.canonical c.requires.inside
    c.reverse_bits_between.auto.own (simp map-id at c.reverse_bits_between.ensures.within)
    (simp map-id at c.reverse_bits_between.ensures.reversed)
