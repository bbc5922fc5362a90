-- The packing of what they store.
use Rattle.std.proofs.Common.{length, map, ap, sym, ◌∙◌, subst, ℕ}
use Rattle.vob_block.specs.Packing.{IsCanonical}
use Rattle.vob_block.proofs.PackingLemmas.{length-unpacking}
use Rattle.vob_rows.proofs.PartLemmas.{packed}
use Rattle.vob_rows.proofs.row.Row.blocks.Goals as goal

pub returns-clause-blocks : goal.returns-clause-blocks
returns-clause-blocks g c = rw c.new.ensures.items
    (packed _ g.met.T.BitBlock.wide_law _ _ _ c.self.invariant c.self.view_is)

pub returns-clause-canonical : goal.returns-clause-canonical
returns-clause-canonical g c = rw c.new.ensures.items (subst (λ (n : ℕ). IsCanonical n
    (map g.T.BitBlock.number c.self.inside.blocks.now) g.T.BitBlock.BITS)
    (sym (length-unpacking _ _ _) ∙ ap length c.self.view_is) c.self.invariant)
