-- One block more is stored behind those before.
use Rattle.std.proofs.Common.{◌+◌, ◌*◌, refl, ap, ◌∙◌, arith}
use Rattle.std.proofs.lemmas.List.{length-map, map-set}
use Rattle.vob_store.proofs.CopyLemmas.{AreCopied-next}
use Rattle.vob_store.proofs.load_store.copy_whole.Goals as goal

pub loop-k-preserved : goal.loop-k-preserved
loop-k-preserved g c =
    let number = g.T.BitBlock.number in
    let h = c.loop-k in
    record {
      copied = rw map-set (AreCopied-next _ g.met.T.BitBlock.wide_law _ _ _ _ (omega (
        arith,
        length-map h.own number,
        h.auto.own,
        c.requires.inside,
        c.loop-k-test.true,
      )) _ _ _ _ _
          refl (ap (λ v. c.args.blocks.start + h.k * v) c.BITS-width.ensures) h.invariant.copied
          (rw h.invariant.items at c.bits_at.ensures.places));
      items = c.bits_at.ensures.items ∙ h.invariant.items;
      reads = omega (arith, c.bits_at.ensures.reads, h.invariant.reads);
    }
