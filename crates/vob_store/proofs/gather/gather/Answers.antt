-- Each item is marked at the next place.
use Rattle.std.proofs.Common.{◌+◌, ◌∷◌, ◌++◌, [], refl, ap, ◌∙◌, arith}
use Rattle.std.proofs.iter.Next.{Yields-more}
use Rattle.std.proofs.lemmas.List.{length_push}
use Rattle.vob_store.proofs.GatherLemmas.{gather_none, gather_more, goes_further}
use Rattle.vob_store.proofs.gather.gather.Goals as goal

pub loop-count-init : goal.loop-count-init
loop-count-init g c = record {
  so_far = (
    [],
    refl,
    refl,
    gather_none g.T.BitBlock.BITS _
        (ap g.T.BitBlock.number c.ZERO-block.ensures ∙ g.met.T.BitBlock.zero_number_law),
  );
  goes_on = record { can_next = c.requires.can; finite = c.requires.ends; fewer = omega arith };
}

pub loop-count-preserved : goal.loop-count-preserved
loop-count-preserved g c =
    let number = g.T.BitBlock.number in
    let h = c.loop-count.invariant.so_far in
    let bits = h.0 in
    let bit = c.in-Some.bit in
    record {
      so_far = (
        bits ++ bit ∷ [],
        length_push bits bit ∙ ap (λ k. k + 1) h.1,
        Yields-more g.I.Iterator.next_gives c.args.items.now bits c.loop-count.items bit
            c.next.new.self h.2 c.in-Some.ensures.steps,
        gather_more _ _ _ _ _ _ bits bit h.1 h.3 c.first_place-mark.ensures c.up.ensures.places
            c.bor-block.ensures.places,
      );
      goes_on = goes_further _ _ _ _ _ _ c.loop-count.invariant.goes_on c.in-Some.ensures.goes;
    }
