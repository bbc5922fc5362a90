-- By the lemma on one block more, in either half; and both halves together are all.
use Rattle.std.proofs.Common.{◌∙◌, ℕ, ◌+◌, ◌*◌, map, refl, sym, arith}
use Rattle.vob_walk.proofs.CountLemmas.{ones-none, ones-le, ones-next, ones-halves}
use Rattle.vob_walk.proofs.count.ones_in_halves.Goals as goal

pub loop-k-init : goal.loop-k-init
loop-k-init g c =
    let w = g.T.BitBlock.BITS in
    let xs = map g.T.BitBlock.number (g.S.Source.reading c.args.blocks.now).items in
    let none = λ (n : ℕ). ones-none w xs n n (omega arith) in
    record {
      low = sym (none (c.args.start * w));
      high = sym (none ((c.args.start + c.args.half) * w));
      items = refl;
      reads = refl;
    }

pub overflow_add-low : goal.overflow_add-low
overflow_add-low g c =
    let next = ones-next _ _ _ (c.loop-k.k + 1) (c.args.start + c.args.half + c.args.half)
    (rw c.loop-k.invariant.items at c.read.ensures.block) c.loop-k.invariant.low
    c.ones_in-low.ensures (omega (arith, c.loop-k.auto.k)) refl (omega (arith, c.loop-k-test.true))
    in
    omega (arith, c.requires.fits)

pub overflow_add-high : goal.overflow_add-high
overflow_add-high g c =
    let same = c.read.ensures.items ∙ c.loop-k.invariant.items in
    let next = ones-next _ _ _ (c.loop-k.k + c.args.half + 1) (c.args.start + c.args.half + c.args.half)
    (rw same at c.read-in-loop-k.ensures.block) c.loop-k.invariant.high c.ones_in-high.ensures
    (omega (arith, c.loop-k.auto.k)) refl (omega (arith, c.loop-k-test.true)) in
    omega (arith, c.requires.fits)

pub loop-k-preserved : goal.loop-k-preserved
loop-k-preserved g c =
    let h = c.loop-k.invariant in
    let same = c.read.ensures.items ∙ h.items in
    let k = c.loop-k.k + 1 in
    record {
      low = (ones-next _ _ _ k k (rw h.items at c.read.ensures.block) h.low c.ones_in-low.ensures
          (omega (arith, c.loop-k.auto.k)) refl (omega arith)).0;
      high = (ones-next _ _ _ (k + c.args.half) (k + c.args.half)
          (rw same at c.read-in-loop-k.ensures.block) h.high c.ones_in-high.ensures
          (omega (arith, c.loop-k.auto.k)) (omega arith) (omega arith)).0;
      items = c.read-in-loop-k.ensures.items ∙ same;
      reads = omega (arith, c.read.ensures.reads, c.read-in-loop-k.ensures.reads, h.reads);
    }

pub returns-clause-ones : goal.returns-clause-ones
returns-clause-ones g c = ones-halves _ _ _ _ _
    (omega (arith, c.loop-k.auto.k-end, c.loop-k-test.false)) c.loop-k.invariant.low
    c.loop-k.invariant.high

pub overflow_add-result : goal.overflow_add-result
overflow_add-result g c =
    let few = ones-le g.T.BitBlock.BITS
    (map g.T.BitBlock.number (g.S.Source.reading c.args.blocks.now).items)
    (c.args.start * g.T.BitBlock.BITS) ((c.args.start + c.args.half + c.args.half) * g.T.BitBlock.BITS) in
    omega (arith, returns-clause-ones g c, c.requires.fits)
