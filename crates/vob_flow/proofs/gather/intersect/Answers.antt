-- One set more was intersected.
use Rattle.std.proofs.Common.{◌<◌, ◌∙◌, sym, get_or, [], length, replicate, true, arith}
use Rattle.std.proofs.lemmas.Grind.{get_or_default_zero}
use Rattle.std.proofs.lemmas.List.{length-replicate, length-take-le}
use Rattle.vob.proofs.BitsLemmas.{item_replicate}
use Rattle.vob.proofs.VobsLemmas.{all_next}
use Rattle.vob_flow.specs.Draws.{IsIn}
use Rattle.vob_flow.specs.Greatest.{IsInAll}
use Rattle.vob_flow.proofs.ChangesLemmas.{Becomes-again, Becomes-row}
use Rattle.vob_flow.proofs.GatherLemmas.{Becomes-and}
use Rattle.vob_flow.proofs.gather.intersect.Goals as goal

pub loop-set-init : goal.loop-set-init
loop-set-init c =
    let none = length-take-le 0 c.args.from.now (omega arith) in
    let columns = c.args.commons.now.columns in
    let long = c.columns-lengths.ensures.long c.args.common [] c.requires.common
    ∙ c.columns-lengths.ensures.columns in (
      Becomes-row c.args.common _ (replicate columns true) c.requires.common c.fill_row.ensures.rows
          (length-replicate columns true ∙ sym long) (λ v less. (
            (λ e k d low. absurd (omega (arith, low, none))),
            (λ all. item_replicate columns true v (omega (arith, less, long))),
          )),
      c.fill_row.ensures.columns,
    )

pub loop-set-preserved : goal.loop-set-preserved
loop-set-preserved c =
    let from = c.args.from.now in
    let sets = c.args.sets.now.rows in
    let k = c.loop-set.set-index in
    let so_far = c.loop-set.invariant in
    let there : c.args.common < length c.loop-set.commons.rows =
    omega (arith, c.requires.common, so_far.0.shape.count) in
    let named = c.requires.from k 0 c.loop-set-test.true in
    let same = c.columns-columns-in-loop-set.ensures.long c.args.common [] there
    ∙ c.columns-columns-in-loop-set.ensures.columns ∙ so_far.1 ∙ c.requires.columns
    ∙ sym c.columns-columns.ensures.columns
    ∙ sym (c.columns-columns.ensures.long (get_or from k 0) [] named) in (
      Becomes-again (IsInAll sets _) so_far.0 (Becomes-and sets c.args.common (get_or from k 0) there same
          (rw c.row.ensures.bits at c.and_with.ensures.rows)) (λ v less is.
          let next = all_next (λ m. IsIn sets m v) from k _ c.loop-set-test.true
          (sym (get_or_default_zero from k _ c.loop-set-test.true)) in (
            (λ all. let parts = next.0 all in (is.1 parts.0, parts.1)),
            (λ both. next.1 (is.0 both.0, both.1)),
          )),
      c.and_with.ensures.columns ∙ so_far.1,
    )
