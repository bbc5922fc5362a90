-- One number more.
use Rattle.std.proofs.Common.{ap, arith, get_or, inl, inr}
use Rattle.std.proofs.lemmas.Bool.{cases_eq}
use Rattle.std.proofs.lemmas.List.{get_or_default}
use Rattle.vob_lr.proofs.bound.greatest.Goals.{then-numbers-place, else-numbers-place}
use Rattle.vob_lr.proofs.bound.greatest.Goals as goal

pub loop-place-preserved : goal.loop-place-preserved
loop-place-preserved c = λ k d less.
    let numbers = c.args.numbers.now in
    let p = c.loop-place.place in
    let own = get_or_default numbers p d 0 (omega arith) in
    elim (cases_eq k p) [
      | inl here ↦
          let same = ap (λ n. get_or numbers n d) here in
          elim c.if-numbers-place.branch [
            | then-numbers-place w ↦ omega (arith, own, same, w.most-is)
            | else-numbers-place w ↦ omega (arith, own, same, w.most-is, w.if-numbers-place.false)
          ]
      | inr other ↦
          let old = c.loop-place.invariant k d (omega (arith, less, other)) in
          elim c.if-numbers-place.branch [
            | then-numbers-place w ↦ omega (arith, old, w.most-is, w.if-numbers-place.true)
            | else-numbers-place w ↦ omega (arith, old, w.most-is)
          ]
    ]

pub returns : goal.returns
returns c = λ k d less. c.loop-place.invariant k d (omega (arith, less))
