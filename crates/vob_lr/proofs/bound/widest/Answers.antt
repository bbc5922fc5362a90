-- One right side more.
use Rattle.std.proofs.Common.{◌∙◌, ap, arith, get_or, inl, inr, length, sym}
use Rattle.std.proofs.lemmas.Bool.{cases_eq}
use Rattle.std.proofs.lemmas.List.{get_or_default}
use Rattle.vob_lr.specs.declared.grammar.Rule.{Rule}
use Rattle.vob_lr.proofs.bound.widest.Goals.{then-len-most, else-len-most}
use Rattle.vob_lr.proofs.bound.widest.Goals as goal

pub loop-place-preserved : goal.loop-place-preserved
loop-place-preserved c = λ k d less.
    let rules = c.args.rules.now in
    let p = c.loop-place.place in
    let rule = c.index-rules-place.result in
    elim (cases_eq k p) [
      | inl here ↦
          let read = ap (λ n. get_or rules n d) here ∙ get_or_default rules p d rule (omega arith)
          ∙ sym c.index-rules-place.is in
          let same = ap (λ (r : Rule). length r.right.items) read in
          let long = c.len-len.ensures ∙ ap (λ (r : Rule). r.right.len) (sym c.index-rules-place.is)
          ∙ rule.right.ok.0 in
          elim c.if-len-most.branch [
            | then-len-most w ↦ omega (arith, same, long, w.most-is)
            | else-len-most w ↦ omega (arith, same, long, w.most-is, w.if-len-most.false)
          ]
      | inr other ↦
          let old = c.loop-place.invariant k d (omega (arith, less, other)) in
          elim c.if-len-most.branch [
            | then-len-most w ↦ omega (arith, old, w.most-is, w.if-len-most.true)
            | else-len-most w ↦ omega (arith, old, w.most-is)
          ]
    ]

pub returns : goal.returns
returns c = λ k d less. c.loop-place.invariant k d (omega (arith, less))
