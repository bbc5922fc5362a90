-- By the lemmas on words that are written over others.
use Rattle.std.proofs.lemmas.List.{map-id}
use Rattle.vob_c.proofs.RangeLemmas.{copied_stores, words_inside}
use Rattle.vob_c.proofs.ranges.copy_between.Goals as goal

pub copy_bits-requires-clause-inside : goal.copy_bits-requires-clause-inside
copy_bits-requires-clause-inside c = words_inside _ _ _ c.requires.canonical c.requires.inside

pub returns : goal.returns
returns c = record {
  stores = copied_stores _ _ _ _ _ _ _ _ c.requires.canonical c.requires.theirs
      c.requires.inside c.copy_bits.auto.own (simp map-id at c.copy_bits.ensures.within)
      (rw c.new.ensures.items at (simp map-id at c.copy_bits.ensures.copied)) c.requires.source;
}
