-- Block after block is negated, and then the unused places are cleared.
use Rattle.std.proofs.Common.{◌<◌, ◌∙◌, refl, sym, map, length, arith}
use Rattle.std.proofs.lemmas.List.{length-map, map-set, get_or-set_other}
use Rattle.vob_store.proofs.BuildLemmas.{AreBuilt-none, number_indexed}
use Rattle.vob_store.proofs.WholeLemmas.{AreBuilt-negated, unpacking-negated}
use Rattle.vob_store.proofs.mask.negate.Goals as goal

pub loop-k-init : goal.loop-k-init
loop-k-init g c = record { built = AreBuilt-none; rest = λ i _. refl }

pub loop-k-preserved : goal.loop-k-preserved
loop-k-preserved g c =
    let number = g.T.BitBlock.number in
    let h = c.loop-k.invariant in
    let xs = map number c.loop-k.blocks in
    let y = number c.bnot.result in
    let inside : c.loop-k.k < length c.loop-k.blocks = omega (arith, c.loop-k.auto.blocks) in
    let read = number_indexed number c.loop-k.blocks c.loop-k.k c.index-blocks-k.result inside
    c.index-blocks-k.is ∙ h.rest c.loop-k.k (omega arith) in
    record {
      built = rw map-set (AreBuilt-negated _ g.met.T.BitBlock.wide_law
          (map number c.args.blocks.now) _ _ _ _ read c.bnot.ensures.places h.built
          (omega (arith, length-map c.loop-k.blocks number)));
      rest = rw map-set (λ i above. get_or-set_other xs c.loop-k.k i y 0
          (λ e. absurd (omega arith)) ∙ h.rest i (omega arith));
    }

pub mask_last-requires : goal.mask_last-requires
mask_last-requires g c = c.loop-k.auto.blocks
    ∙ sym (length-map c.args.blocks.now g.T.BitBlock.number) ∙ c.requires.count

pub returns : goal.returns
returns g c =
    let w = g.T.BitBlock.BITS in
    let number = g.T.BitBlock.number in
    record {
      canonical = c.mask_last.ensures.canonical;
      bits = c.mask_last.ensures.bits
          ∙ unpacking-negated w g.met.T.BitBlock.wide_law c.args.len (map number c.args.blocks.now)
          (map number c.loop-k.blocks) c.loop-k.k
          (omega (
            arith,
            c.requires.count,
            length-map c.args.blocks.now number,
            c.loop-k-test.false,
          )) c.loop-k.invariant.built;
    }
