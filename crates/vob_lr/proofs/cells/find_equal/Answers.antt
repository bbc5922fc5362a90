-- The cell that is read, or none of those so far.
use Rattle.std.proofs.Common.{◌∙◌, arith, get_or, inl, inr, length, refl, subst, sym}
use Rattle.std.proofs.lemmas.Bool.{cases_eq, false≢true}
use Rattle.std.proofs.lemmas.Option.{get_or_from_slice_get, slice_get_read}
use Rattle.vob_lr.specs.Kept.{Equals}
use Rattle.vob_lr.specs.declared.table.Cell.{Cell}
use Rattle.vob_lr.proofs.cells.find_equal.Goals as goal

pub returns-then-equals-clause-some : goal.returns-then-equals-clause-some
returns-then-equals-clause-some c =
    let kept = c.args.kept.now in (
      c.index-kept-place.result,
      slice_get_read kept (length kept) c.loop-place.place c.index-kept-place.result refl (omega arith) c.index-kept-place.is,
      c.equals.ensures.0 c.if-equals.true,
    )

pub loop-place-preserved : goal.loop-place-preserved
loop-place-preserved c = λ k d less. elim (cases_eq k c.loop-place.place) [
  | inl here ↦
      let kept = c.args.kept.now in
      let own = get_or_from_slice_get kept c.loop-place.place c.index-kept-place.result d
      (slice_get_read kept (length kept) c.loop-place.place c.index-kept-place.result refl (omega arith)
      c.index-kept-place.is) in
      subst (λ n. ¬ Equals c.args.cell.now (get_or kept n d)) (sym here)
      (subst (λ (x : Cell). ¬ Equals c.args.cell.now x) (sym own)
      (λ same. false≢true (sym c.if-equals.false ∙ c.equals.ensures.1 same)))
  | inr other ↦ c.loop-place.invariant k d (omega (arith, less, other))
]

pub returns-clause-none : goal.returns-clause-none
returns-clause-none c = λ k d less. c.loop-place.invariant k d (omega (arith, less))
