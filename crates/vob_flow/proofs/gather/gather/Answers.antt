-- One set more was added.
use Rattle.std.proofs.Common.{◌<◌, ◌∙◌, sym, get_or, [], length, refl, arith}
use Rattle.std.proofs.lemmas.Grind.{get_or_default_zero}
use Rattle.std.proofs.lemmas.List.{length-take-le}
use Rattle.vob.proofs.VobsLemmas.{any_next}
use Rattle.vob_flow.specs.Draws.{IsIn}
use Rattle.vob_flow.proofs.ChangesLemmas.{Gets-more, Gets-none}
use Rattle.vob_flow.proofs.GatherLemmas.{Gets-or}
use Rattle.vob_flow.proofs.gather.gather.Goals as goal

pub loop-set-init : goal.loop-set-init
loop-set-init c =
    let none = length-take-le 0 c.args.from.now (omega arith) in
    (Gets-none _ _ _ (λ v some. absurd (omega (arith, some.2, none))), refl)

pub loop-set-preserved : goal.loop-set-preserved
loop-set-preserved c =
    let from = c.args.from.now in
    let sets = c.args.sets.now.rows in
    let k = c.loop-set.set-index in
    let so_far = c.loop-set.invariant in
    let there : c.args.sum < length c.loop-set.sums.rows =
    omega (arith, c.requires.sum, so_far.0.shape.count) in
    let named = c.requires.from k 0 c.loop-set-test.true in
    let same = c.columns-columns-in-loop-set.ensures.long c.args.sum [] there
    ∙ c.columns-columns-in-loop-set.ensures.columns ∙ so_far.1 ∙ c.requires.columns
    ∙ sym c.columns-columns.ensures.columns
    ∙ sym (c.columns-columns.ensures.long (get_or from k 0) [] named) in (
      Gets-more _ so_far.0 (Gets-or sets c.args.sum (get_or from k 0) there same
          (rw c.row.ensures.bits at c.or_with.ensures.rows)) (λ v. any_next (λ m. IsIn sets m v) from k _
          c.loop-set-test.true (sym (get_or_default_zero from k _ c.loop-set-test.true))),
      c.or_with.ensures.columns ∙ so_far.1,
    )
