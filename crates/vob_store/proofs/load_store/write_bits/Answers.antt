-- The word's first places stand in one block, and the others in the next one.
use Rattle.std.proofs.Common.{◌+◌, refl, subst, ℕ, [], ◌∷◌, map, arith}
use Rattle.vob_store.specs.Copying.{AreCopied}
use Rattle.vob_store.proofs.CopyLemmas.{AreCopied-two, places-first, places-moved, head-le, part_one}
use Rattle.vob_store.proofs.load_store.write_bits.Goals.{then-head-count, else-head-count}
use Rattle.vob_store.proofs.load_store.write_bits.Goals as goal

pub write_part-requires-then-head-count-clause-one :
    goal.write_part-requires-then-head-count-clause-one
write_part-requires-then-head-count-clause-one g c =
    part_one _ g.met.T.BitBlock.wide_law c.args.at c.args.count _ _ _ c.BITS-width.ensures
    c.min-head.ensures refl c.requires.few

pub returns-clause-copied : goal.returns-clause-copied
returns-clause-copied g c =
    let w = g.T.BitBlock.BITS in
    let wide = g.met.T.BitBlock.wide_law in
    let word = g.T.BitBlock.number c.args.word in
    let head = c.min-head.result in
    let few = (head-le w wide c.args.at c.args.count head _ _ c.BITS-width.ensures
    c.min-head.ensures refl).0 in
    let front = c.write_part.ensures (word ∷ []) 0 (places-first w word) in
    elim c.if-head-count.branch [
      | then-head-count h ↦ rw h.own-is (AreCopied-two few front
          (h.write_part-then-head-count.ensures (word ∷ []) (0 + head)
          (places-moved w wide word _ head h.down.ensures.places)))
      | else-head-count h ↦ rw h.own-is (subst (λ (n : ℕ). AreCopied w c.args.at 0 n
          (map g.T.BitBlock.number c.args.own.now) (word ∷ [])
          (map g.T.BitBlock.number c.write_part.new.own))
          (omega (arith, few, h.if-head-count.false)) front)
    ]
