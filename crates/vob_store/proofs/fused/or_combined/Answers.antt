-- By the lemma on one block more.
use Rattle.std.proofs.Common.{◌≡◌, ◌∙◌, ◌||◌, map, length, refl, sym, ap, subst, ℕ, arith}
use Rattle.std.proofs.lemmas.List.{length-map}
use Rattle.vob_block.specs.Kernel.{Takes}
use Rattle.vob_block.proofs.KernelLemmas.{Takes-none, IsCombined-taken}
use Rattle.vob_block.proofs.NumberLemmas.{number_read}
use Rattle.vob_store.proofs.FusedLemmas.{Takes-fused}
use Rattle.vob_store.proofs.fused.or_combined.Goals as goal

pub loop-k-init : goal.loop-k-init
loop-k-init g c =
    let number = g.T.BitBlock.number in
    let own = map number c.args.own.now in
    let zero : number c.ZERO-changed.result ≡ 0 = ap number c.ZERO-changed.ensures
    ∙ g.met.T.BitBlock.zero_number_law in
    record {
      taken = λ both _. subst (λ (x : ℕ). Takes g.T.BitBlock.BITS ◌||◌ both own own 0 0 0 x) (sym zero)
          (Takes-none g.T.BitBlock.BITS ◌||◌ both own 0 0);
      first = refl;
      second = refl;
    }

pub loop-k-preserved : goal.loop-k-preserved
loop-k-preserved g c =
    let number = g.T.BitBlock.number in
    let h = c.loop-k in
    let its = number_read number c.args.first.now.items h.k c.block.result
    (rw h.invariant.first at c.block.ensures.block) in
    let theirs = number_read number c.args.second.now.items h.k c.block-in-loop-k.result
    (rw h.invariant.second at c.block-in-loop-k.ensures.block) in
    record {
      taken = λ both combined. Takes-fused number g.T.BitBlock.BITS g.C.Combine.of_bits
          (map number c.args.first.now.items) (map number c.args.second.now.items) both
          (map number c.args.own.now) h.own h.k (number h.changed) combined
          (omega (arith, h.auto.own, c.requires.first, length-map c.args.first.now.items number))
          (omega arith) c.in_range.ensures (h.invariant.taken both combined) _ _ _ _ _ _ _
          c.index-own-k.is its theirs c.in_range-in-loop-k.ensures c.bor-new.ensures.within
          c.bxor.ensures.within c.bor-changed.ensures.within c.block-in-loop-k-2.ensures.places
          c.bor-new.ensures.places c.bxor.ensures.places c.bor-changed.ensures.places;
      first = c.block.ensures.items ∙ h.invariant.first;
      second = c.block-in-loop-k.ensures.items ∙ h.invariant.second;
    }

pub returns : goal.returns
returns g c = λ both combined.
    let number = g.T.BitBlock.number in
    let h = c.loop-k in
    let own = c.args.own.now in
    let zero = ap number c.ZERO.ensures ∙ g.met.T.BitBlock.zero_number_law in
    let test = g.met.T.BitBlock.equal_law h.changed c.ZERO.result in
    let whole : h.k ≡ length (map number own) =
    omega (arith, h.auto.own, h.auto.k-end, length-map own number) in
    rw c.ne.ensures (IsCombined-taken g.T.BitBlock.BITS ◌||◌ both (map number own)
    (map number h.own) h.k 0 (number h.changed) (h.invariant.taken both combined) refl whole
    (g.T.PartialEq.eq h.changed c.ZERO.result) ((λ e. test.0 e ∙ zero), (λ e. test.1 (e ∙ sym zero))))
