-- One set more was added.
use Rattle.std.proofs.Common.{◌∙◌, sym, take, refl, arith}
use Rattle.std.proofs.lemmas.Grind.{get_or_default_zero}
use Rattle.std.proofs.lemmas.List.{length-take-le}
use Rattle.vob.proofs.VobsLemmas.{any_next}
use Rattle.vob_flow.specs.Draws.{IsIn}
use Rattle.vob_flow.specs.Touched.{place_in}
use Rattle.vob_flow.proofs.ChangesLemmas.{Gets-more, Gets-none}
use Rattle.vob_flow.proofs.lists.gather_own.Goals as goal

pub loop-number-init : goal.loop-number-init
loop-number-init c =
    let none = length-take-le 0 c.args.numbers.now (omega arith) in
    (Gets-none _ _ _ (λ v some. absurd (omega (arith, some.2, none))), refl)

pub loop-number-preserved : goal.loop-number-preserved
loop-number-preserved c =
    let numbers = c.args.numbers.now in
    let k = c.loop-number.number-index in
    let so_far = c.loop-number.invariant in (
      Gets-more _ so_far.0 (rw c.place_of.ensures at c.or_there.ensures.got)
          (λ v. any_next (λ x. IsIn c.args.sets.now.rows (place_in c.args.own.now x) v) numbers k _
          c.loop-number-test.true (sym (get_or_default_zero numbers k _ c.loop-number-test.true))),
      c.or_there.ensures.columns ∙ so_far.1,
    )
