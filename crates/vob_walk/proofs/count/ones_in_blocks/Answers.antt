-- Both halves, and by the lemma on one block more the last of an odd number.
use Rattle.std.proofs.Common.{◌≡◌, ◌∙◌, ◌+◌, ◌-◌, ◌*◌, ◌/◌, map, ap, arith}
use Rattle.vob_walk.specs.Count.{ones_between}
use Rattle.vob_walk.proofs.CountLemmas.{ones-le, ones-more}
use Rattle.vob_walk.proofs.count.ones_in_blocks.Goals as goal

pub returns-then-last-end-clause-ones : goal.returns-then-last-end-clause-ones
returns-then-last-end-clause-ones g c =
    let w = g.T.BitBlock.BITS in
    let number = g.T.BitBlock.number in
    let xs = map number (g.S.Source.reading c.args.blocks.now).items in
    let half = (c.args.end - c.args.start) / 2 in
    let last = c.args.start + half + half in
    let read = rw c.ones_in_halves-ones.ensures.items at c.read.ensures.block in
    let more = ones-more w xs c.args.start last (number c.read.result) (omega arith) read in
    let all : last + 1 ≡ c.args.end = omega arith in
    omega arith
    ∙ ap (λ k. ones_between w xs (c.args.start * w) (k * w)) all

pub overflow_add-result : goal.overflow_add-result
overflow_add-result g c =
    let w = g.T.BitBlock.BITS in
    let xs = map g.T.BitBlock.number (g.S.Source.reading c.args.blocks.now).items in
    omega (
      arith,
      returns-then-last-end-clause-ones g c,
      ones-le w xs (c.args.start * w) (c.args.end * w),
    )
