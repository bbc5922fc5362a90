-- Each round exchanges the halves of the parts.
use Rattle.std.proofs.Common.{ℕ, ◌≡◌, ◌+◌, ◌/◌, ◌∙◌, ap, subst, arith}
use Rattle.vob_block.proofs.PlaceLemmas.{place-ones}
use Rattle.vob_block.specs.Places.{place}
use Rattle.vob_store.proofs.ReversingLemmas.{IsHalved, IsHalved-one, IsHalved-places, IsHalved-half, half_power, IsHalvable-positive}
use Rattle.vob_store.proofs.reverse.reversed.Goals as goal

pub loop-size-init : goal.loop-size-init
loop-size-init g c =
    let w = g.T.BitBlock.BITS in
    let number = g.T.BitBlock.number in
    let ones = ap number c.ONES-mask.ensures ∙ g.met.T.BitBlock.ones_number_law in
    record {
      halvable = (c.requires.0, c.BITS-size.ensures ∙ c.requires.1);
      halved = (
        1,
        rw c.BITS-size.ensures (IsHalved-one w (number c.args.block)
            (number c.ONES-mask.result) (λ j below. ap (place j) ones ∙ place-ones w j below)),
      );
    }

pub loop-size-preserved : goal.loop-size-preserved
loop-size-preserved g c =
    let w = g.T.BitBlock.BITS in
    let number = g.T.BitBlock.number in
    let h = c.loop-size.invariant in
    let m = h.halved.0 in
    let x = number c.args.block in
    let v = number c.loop-size.all in
    let marks = number c.loop-size.mask in
    let both = half_power c.loop-size.size h.halvable (omega (arith, c.loop-size-test.true)) in
    record {
      halvable = both.0;
      halved = (
        m + m,
        IsHalved-half w (c.loop-size.size / 2) x v marks m _ _ _
            (omega (arith, c.loop-size-test.true))
            (subst (λ (s : ℕ). IsHalved w s x v marks m) both.1 h.halved.1)
            c.up.ensures.places c.bxor-mask.ensures.places c.exchange-all.ensures,
      );
    }

pub returns : goal.returns
returns g c =
    let w = g.T.BitBlock.BITS in
    let number = g.T.BitBlock.number in
    let h = c.loop-size.invariant in
    let m = h.halved.0 in
    let x = number c.args.block in
    let v = number c.loop-size.all in
    let marks = number c.loop-size.mask in
    let some = IsHalvable-positive c.loop-size.size h.halvable in
    let one : c.loop-size.size ≡ 1 = omega (arith, some, c.loop-size-test.false) in
    IsHalved-places w x v marks m (subst (λ (s : ℕ). IsHalved w s x v marks m) one h.halved.1)
