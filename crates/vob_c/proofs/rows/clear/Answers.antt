-- Word after word is 0.
use Rattle.std.proofs.Common.{◌∙◌, ℕ, length, get_or, set, replicate, arith, inl, inr, sym, ap}
use Rattle.std.proofs.lemmas.Bool.{cases_eq}
use Rattle.std.proofs.lemmas.List.{ext_get_or, get_or-set_same, get_or-set_other, get_or-replicate, length-replicate}
use Rattle.vob_c.proofs.rows.clear.Goals as goal

pub loop-k-init : goal.loop-k-init
loop-k-init c = λ i below. absurd (omega (arith, below))

pub loop-k-preserved : goal.loop-k-preserved
loop-k-preserved c = λ i below. elim (cases_eq i c.loop-k.k) [
  | inl here ↦
      ap (λ j. get_or (set c.loop-k.words c.loop-k.k 0) j 0) here
      ∙ get_or-set_same c.loop-k.words c.loop-k.k 0 0 (omega (arith, c.loop-k.auto.words))
  | inr apart ↦ get_or-set_other c.loop-k.words c.loop-k.k i 0 0 apart
      ∙ c.loop-k.invariant i (omega (arith, below, apart))
]

pub returns : goal.returns
returns c =
    let count = length c.args.words.now in
    ext_get_or 0 c.loop-k.words (replicate count 0)
    (omega (arith, c.loop-k.auto.words, length-replicate {A = ℕ} count 0)) (λ i inside.
    c.loop-k.invariant i (omega (arith, inside, c.loop-k.auto.words, c.loop-k.auto.k-end))
    ∙ sym (get_or-replicate count i 0 0 (omega (arith, inside, c.loop-k.auto.words))))
