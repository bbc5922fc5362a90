-- By the lemma on one block more.
use Rattle.std.proofs.Common.{◌≡◌, ◌∙◌, ◌+◌, length, map, refl, sym, arith}
use Rattle.vob_block.specs.Places.{true_places}
use Rattle.vob_store.specs.Combined.{ones_combined}
use Rattle.vob_store.proofs.CombinedLemmas.{IsBlock-read, ones_combined-none, ones_combined-more, ones_combined-le}
use Rattle.vob_store.proofs.combined.count_combined.Given as given
use Rattle.vob_store.proofs.combined.count_combined.Goals as goal
use Rattle.vob_store.proofs.combined.count_combined.Goals.{After-block-in-loop-k}

more : (g : given.Over) (c : After-block-in-loop-k g)
    → ones_combined g.C.Combine.of_bits g.T.BitBlock.BITS (map g.T.BitBlock.number c.args.own.now)
    (map g.T.BitBlock.number c.args.other.now.items) (c.loop-k.k + 1)
    ≡ c.loop-k.ones + true_places g.T.BitBlock.BITS (g.T.BitBlock.number c.block-in-loop-k.result)
more g c = rw c.loop-k.invariant.ones (ones_combined-more _ _ _ _ _ _ (IsBlock-read
    g.T.BitBlock.number _ _ _ _ _ _ _ _ c.index-own-k.is (omega arith)
    (rw c.loop-k.invariant.items at c.block.ensures.block) c.block-in-loop-k.ensures.places))

pub loop-k-init : goal.loop-k-init
loop-k-init g c = record {
  ones = sym (ones_combined-none g.C.Combine.of_bits g.T.BitBlock.BITS
      (map g.T.BitBlock.number c.args.own.now) (map g.T.BitBlock.number c.args.other.now.items));
  items = refl;
  reads = omega arith;
}

pub overflow_add-ones : goal.overflow_add-ones
overflow_add-ones g c =
    let few = ones_combined-le g.C.Combine.of_bits g.T.BitBlock.BITS
    (map g.T.BitBlock.number c.args.own.now) (map g.T.BitBlock.number c.args.other.now.items)
    (c.loop-k.k + 1) (length c.args.own.now) (omega arith) in
    omega (
      arith,
      c.ones_in-ones.ensures,
      few,
      c.requires.fits,
      more g (goal.at.overflow_add-ones g c).After-block-in-loop-k,
    )

pub loop-k-preserved : goal.loop-k-preserved
loop-k-preserved g c = record {
  ones = omega (
    arith,
    c.ones_in-ones.ensures,
    more g (goal.at.loop-k-preserved g c).After-block-in-loop-k,
  );
  items = c.block.ensures.items ∙ c.loop-k.invariant.items;
  reads = omega (arith, c.block.ensures.reads, c.loop-k.invariant.reads);
}
