-- By the lemmas on one block, with all of its places under the mask.
use Rattle.std.proofs.Common.{◌≡◌, ℕ, ◌+◌, ◌*◌, ◌^◌, ◌<◌, length, map, refl, sym, ap, ◌∙◌, subst, arith, add-mul, one-mul}
use Rattle.std.proofs.lemmas.Nat.{mul-le, pow_pos}
use Rattle.vob_store.proofs.RangeLemmas.{HasPlaces-all, IsRanged-none, IsRanged-item, IsRanged-ends, IsRanged-join, same_item, same_join, gathered}
use Rattle.vob_store.proofs.RangeLemmas.{gathered_none, not_flag}
use Rattle.vob_store.proofs.range.change_blocks.Goals as goal

pub loop-k-init : goal.loop-k-init
loop-k-init g c =
    let zero = ap g.T.BitBlock.number c.ZERO-changed.ensures ∙ g.met.T.BitBlock.zero_number_law in
    record {
      ranged = IsRanged-none (omega arith);
      small = subst (λ (x : ℕ). x < 2 ^ g.T.BitBlock.BITS) (sym zero) (pow_pos g.T.BitBlock.BITS);
      flag = gathered_none _ _ (map g.T.BitBlock.number c.args.blocks.now) zero;
    }

pub loop-k-preserved : goal.loop-k-preserved
loop-k-preserved g c =
    let number = g.T.BitBlock.number in
    let w = g.T.BitBlock.BITS in
    let k = c.loop-k.k in
    let h = c.loop-k.invariant in
    let now = c.loop-k.blocks in
    let inside : k < length now =
    omega (arith, c.loop-k.auto.blocks, c.loop-k-test.true, c.requires.inside) in
    let old = c.index-blocks-k.result in
    let new = c.block-new.result in
    let ones = ap number c.ONES.ensures ∙ g.met.T.BitBlock.ones_number_law in
    let row : k * w + w ≡ (k + 1) * w = omega (arith, add-mul k 1 w, one-mul w) in
    let one = IsRanged-ends (IsRanged-item number _ g.met.T.BitBlock.wide_law g.C.Change.of_bit _ _
    _ new inside c.index-blocks-k.is 0 w _ (omega arith) (HasPlaces-all _ _ ones)
    c.block-new.ensures.within c.block-new.ensures.places) (omega arith) row in
    let same = same_item number _ g.met.T.BitBlock.wide_law g.C.Change.of_bit _ _ _ new inside
    c.index-blocks-k.is c.in_range.ensures c.block-new.ensures.within in
    let low = mul-le c.args.from w k w c.loop-k.auto.k (omega arith) in
    record {
      ranged = IsRanged-join h.ranged one low (omega (arith, row));
      small = c.bor-changed.ensures.within;
      flag = gathered w h.small c.in_range.ensures c.block-new.ensures.within
          c.bxor.ensures.within c.bor-changed.ensures.within c.bxor.ensures.places
          c.bor-changed.ensures.places h.flag same
          (same_join h.ranged one low (omega (arith, row)));
    }

pub returns : goal.returns
returns g c =
    let last : c.loop-k.k ≡ c.args.to = omega (arith, c.loop-k.auto.k-end, c.requires.order) in
    let zero = ap g.T.BitBlock.number c.ZERO.ensures ∙ g.met.T.BitBlock.zero_number_law in
    let test = g.met.T.BitBlock.equal_law c.loop-k.changed c.ZERO.result in
    let h = c.loop-k.invariant in
    record {
      ranged = IsRanged-ends h.ranged refl (ap (λ k. k * g.T.BitBlock.BITS) last);
      changed = not_flag _ _ c.ne.ensures (
        (λ e. h.flag.0 (test.0 e ∙ zero)),
        (λ all. test.1
            (h.flag.1 all ∙ sym zero)),
      );
    }
