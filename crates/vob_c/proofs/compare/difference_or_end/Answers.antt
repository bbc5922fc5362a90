-- By the lemma on the first words of both.
use Rattle.std.specs.Prelude.{unwrap_or}
use Rattle.std.proofs.Common.{◌≡◌, ◌∙◌, ℕ, ap, arith, length, min, sym}
use Rattle.std.proofs.lemmas.List.{length-take-le, map-id}
use Rattle.vob_block.specs.Packing.{need}
use Rattle.vob_c.proofs.FoundLemmas.{decided, difference_found, enough_words}
use Rattle.vob_c.proofs.compare.difference_or_end.Goals as goal

counted : (k s n m : ℕ) → k ≡ need s 64 → s ≡ min n m → k ≡ need (min n m) 64
counted k s n m is least = is ∙ ap (λ n. need n 64) least

pub slice_bounds-first_combined-end : goal.slice_bounds-first_combined-end
slice_bounds-first_combined-end c = sym (length-take-le c.block_count-count.result c.args.own.now
    (enough_words _ _ _ _ c.requires.own c.requires.other _
    (counted _ _ _ _ c.block_count-count.ensures c.min-shorter.ensures)).0)

pub slice_bounds-new-end : goal.slice_bounds-new-end
slice_bounds-new-end c = sym (length-take-le c.block_count-count.result c.args.other.now
    (enough_words _ _ _ _ c.requires.own c.requires.other _
    (counted _ _ _ _ c.block_count-count.ensures c.min-shorter.ensures)).1)

pub first_combined-found-requires-clause-same : goal.first_combined-found-requires-clause-same
first_combined-found-requires-clause-same c =
    let enough = enough_words _ _ _ _ c.requires.own c.requires.other _
    (counted _ _ _ _ c.block_count-count.ensures c.min-shorter.ensures) in
    length-take-le c.block_count-count.result c.args.own.now enough.0
    ∙ sym (length-take-le c.block_count-count.result c.args.other.now enough.1)
    ∙ sym (ap length c.new.ensures.items)

pub first_combined-found-requires-clause-fits : goal.first_combined-found-requires-clause-fits
first_combined-found-requires-clause-fits c = λ i differs.
    let below = (decided _ _ _ _ c.requires.own c.requires.other _
    (counted _ _ _ _ c.block_count-count.ensures c.min-shorter.ensures)).below i
    (rw c.new.ensures.items at (simp map-id at differs)) in
    omega (arith, below, c.ranges.bits.fits, c.ranges.other_bits.fits)

pub returns-clause-first : goal.returns-clause-first
returns-clause-first c =
    let same = counted _ _ _ _ c.block_count-count.ensures c.min-shorter.ensures in
    let enough = enough_words _ _ _ _ c.requires.own c.requires.other _ same in
    let found = c.first_combined-found in
    difference_found _ _ _ _ c.requires.own c.requires.other _ same _ found.result
    (c.min.ensures ∙ ap (λ v. min v c.min-shorter.result) c.unwrap_or.ensures
    ∙ ap (λ s. min (unwrap_or found.result s) s) c.min-shorter.ensures)
    (rw (length-take-le c.block_count-count.result c.args.own.now enough.0, c.new.ensures.items) at
    (simp map-id at found.ensures.found))
