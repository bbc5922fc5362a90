-- By the law of one list, whose bits are the two combined.
use Rattle.std.proofs.Common.{◌<◌, length, refl, sym, ◌∙◌, arith, true}
use Rattle.std.specs.declared.ops.Bound.TheVariants.{Unbounded}
use Rattle.vob_block.specs.Pointwise.{pointwise}
use Rattle.vob_block.proofs.PointwiseLemmas.{length-pointwise}
use Rattle.vob_walk.proofs.IndexLemmas.{matches-exactly}
use Rattle.vob_walk.proofs.PairsLemmas.{item-pointwise_inside}
use Rattle.vob_laws.proofs.sets.combined_matches_exactly.Goals as goal

pub returns : goal.returns
returns c = λ f bits others i same.
    let own = matches-exactly (pointwise f bits others) true Unbounded Unbounded i in
    let long = length-pointwise f bits others same in
    let bit = item-pointwise_inside f bits others same i in (
      (λ given.
          let there = own.0 given in
          let inside : i < length bits = omega (arith, there.0, long) in
          (inside, sym (bit inside) ∙ there.2)),
      (λ holds. own.1 (omega (arith, holds.0, long), refl, bit holds.0 ∙ holds.1)),
    )
