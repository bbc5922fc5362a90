-- The blocks so far, and then one more.
use Rattle.std.proofs.Common.{◌≡◌, ℕ, ◌-◌, map, length, refl, subst, arith, ◌∙◌}
use Rattle.vob_block.specs.Kernel.{Takes}
use Rattle.vob_block.proofs.KernelLemmas.{Takes-none, Takes-more}
use Rattle.vob_block.proofs.combine.combine_from.Goals as goal

pub loop-k-init : goal.loop-k-init
loop-k-init g c =
    let number = g.T.BitBlock.number in
    let f = g.C.Combine.of_bits in
    let others = map number c.args.other.now.items in
    let own = map number c.args.own.now in
    let changed = number c.args.changed in
    record {
      taken = subst (λ (m : ℕ). Takes g.T.BitBlock.BITS f others own own c.args.from m changed changed)
          (omega arith) (Takes-none g.T.BitBlock.BITS f others own c.args.from changed);
      items = refl;
      reads = refl;
    }

pub loop-k-preserved : goal.loop-k-preserved
loop-k-preserved g c =
    let number = g.T.BitBlock.number in
    let w = g.T.BitBlock.BITS in
    let f = g.C.Combine.of_bits in
    let h = c.loop-k in
    let step = c.combine_block-changed in
    let from = c.args.from in
    let others = map number c.args.other.now.items in
    let own = map number c.args.own.now in
    let before = map number h.own in
    let after = map number step.new.own in
    let changed = number c.args.changed in
    let sooner = number h.changed in
    let later = number step.result in
    record {
      taken = subst (λ (m : ℕ). Takes w f others own after from m changed later) (omega (arith, h.auto.k))
          (Takes-more w f others own before after from (h.k - from) 1 h.k changed sooner later
          h.invariant.taken (omega (arith, h.auto.k)) (rw h.invariant.items at step.ensures.taken));
      items = step.ensures.items ∙ h.invariant.items;
      reads = omega (arith, step.ensures.reads, h.invariant.reads);
    }

pub returns : goal.returns
returns g c =
    let h = c.loop-k in
    let number = g.T.BitBlock.number in
    let last : h.k ≡ length c.args.own.now = omega (arith, h.auto.own, h.auto.k-end, c.requires.inside) in
    record {
      taken = subst (λ (k : ℕ). Takes g.T.BitBlock.BITS g.C.Combine.of_bits
          (map number c.args.other.now.items) (map number c.args.own.now) (map number h.own)
          c.args.from (k - c.args.from) (number c.args.changed) (number h.changed)) last
          h.invariant.taken;
      items = h.invariant.items;
      reads = omega (arith, h.invariant.reads, last);
    }
