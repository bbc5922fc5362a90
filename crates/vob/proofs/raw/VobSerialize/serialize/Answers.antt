-- Each call sends its part, and the blocks are the packing of the bits.
use Rattle.std.proofs.Common.{◌∙◌, sym, ap, length, subst, ℕ}
use Rattle.serde.specs.Event.{Sends, unsigned}
use Rattle.vob_block.specs.Packing.{packing}
use Rattle.vob_block.proofs.PackingLemmas.{length-unpacking, packing-unpacking}
use Rattle.vob.proofs.raw.VobSerialize.serialize.Goals as goal

pub returns : goal.returns
returns g c =
    let w = g.T.BitBlock.BITS in
    let written = g.S.Serializer.written in
    let len = sym (length-unpacking _ _ _) ∙ ap (λ v. length v.bits) c.self.view_is in
    record {
      blocks = c.self.inside.vec.items;
      packed = sym (packing-unpacking w g.met.T.BitBlock.wide_law c.self.inside.len _ c.self.invariant)
          ∙ ap (λ v. packing v.bits w) c.self.view_is;
      written = (
        _,
        c.in_ok-begin_map.ensures,
        (
          _,
          c.in_ok-key.ensures,
          (
            _,
            subst (λ (n : ℕ). Sends (unsigned n) (written c.key.new.self) (written c.serialize.new.out)) len c.in_ok-serialize.ensures,
            (_, c.in_ok-key-2.ensures, (_, c.in_ok-serialize-2.ensures, c.in_ok-end_map.ensures)),
          ),
        ),
      );
    }
