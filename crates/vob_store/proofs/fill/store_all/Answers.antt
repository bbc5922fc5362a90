-- Block after block is the one that is stored.
use Rattle.std.proofs.Common.{◌∙◌, length, get_or, set, replicate, arith, inl, inr, sym, ap}
use Rattle.std.proofs.lemmas.Bool.{cases_eq}
use Rattle.std.proofs.lemmas.List.{ext_get_or, get_or-set_same, get_or-set_other, get_or-replicate, length-replicate}
use Rattle.vob_store.proofs.fill.store_all.Goals as goal

pub loop-k-init : goal.loop-k-init
loop-k-init g c = λ i below. absurd (omega (arith, below))

pub loop-k-preserved : goal.loop-k-preserved
loop-k-preserved g c = λ i below. elim (cases_eq i c.loop-k.k) [
  | inl here ↦
      ap (λ j. get_or (set c.loop-k.blocks c.loop-k.k c.args.block) j c.args.block) here
      ∙ get_or-set_same c.loop-k.blocks c.loop-k.k c.args.block c.args.block
      (omega (arith, c.loop-k.auto.blocks))
  | inr apart ↦ get_or-set_other c.loop-k.blocks c.loop-k.k i c.args.block c.args.block apart
      ∙ c.loop-k.invariant i (omega (arith, below, apart))
]

pub returns : goal.returns
returns g c =
    let count = length c.args.blocks.now in
    ext_get_or c.args.block c.loop-k.blocks (replicate count c.args.block)
    (omega (arith, c.loop-k.auto.blocks, length-replicate count c.args.block)) (λ i inside.
    c.loop-k.invariant i (omega (arith, inside, c.loop-k.auto.blocks, c.loop-k-test.false))
    ∙ sym (get_or-replicate count i c.args.block c.args.block
    (omega (arith, inside, c.loop-k.auto.blocks))))
