-- The kernel's clauses on blocks are those on bits, with the block as the other's only one.
use Rattle.std.proofs.Common.{◌*◌, ◌-◌, [], ◌∷◌, ◌++◌, ap, ◌∙◌, sym, length, map, take, drop, arith, refl}
use Rattle.std.proofs.lemmas.List.{take_at}
use Rattle.vob_block.specs.Packing.{unpacking}
use Rattle.vob_block.proofs.PackingLemmas.{length-unpacking}
use Rattle.vob_block.proofs.PackingLemmas.{take-unpacking}
use Rattle.vob.proofs.CopyLemmas.{HasCopied, copied_here, written-is}
use Rattle.vob.proofs.MovesLemmas.{own_blocks, own_inside}
use Rattle.vob.proofs.WordsLemmas.{one_canonical}
use Rattle.vob.proofs.vob.Vob.store.Given as given
use Rattle.vob.proofs.vob.Vob.store.Goals as goal
use Rattle.vob.proofs.vob.Vob.store.Goals.{After-write_bits}

written : (g : given.Over) (c : After-write_bits g)
    → HasCopied g.T.BitBlock.BITS c.self.inside.len c.args.range.start 0
    (c.args.range.end - c.args.range.start) c.args.self.now.bits
    (unpacking g.T.BitBlock.BITS (g.T.BitBlock.number c.args.word ∷ []) g.T.BitBlock.BITS)
    (map g.T.BitBlock.number (take c.self.inside.vec.len
    (c.write_bits.new.own ++ drop (length c.write_bits.new.own) c.self.inside.vec.items)))
written g c =
    let number = g.T.BitBlock.number in
    let w = g.T.BitBlock.BITS in
    let wide = g.met.T.BitBlock.wide_law in
    let now = c.write_bits.new.own in
    let word = number c.args.word in
    copied_here number w wide c.self.inside.len c.args.range.start 0
    (c.args.range.end - c.args.range.start) c.self.inside.vec.items (c.args.word ∷ [])
    c.args.self.now.bits (unpacking w (word ∷ []) w) c.self.invariant
    (ap (λ v. v.bits) c.self.view_is) (own_blocks number w wide w (c.args.word ∷ [])
    (one_canonical w wide word c.in_range.ensures) refl)
    (omega (arith, c.requires.order, c.requires.inside)) c.as_mut_slice.ensures.value
    (take_at now (drop (length now) c.self.inside.vec.items) c.self.inside.vec.len
    (c.write_bits.auto.own ∙ c.as_mut_slice.ensures.len)) c.write_bits.auto.own
    c.write_bits.ensures.within c.write_bits.ensures.copied

pub write_bits-requires-clause-inside : goal.write_bits-requires-clause-inside
write_bits-requires-clause-inside g c = omega (
  arith,
  own_inside g.T.BitBlock.number g.T.BitBlock.BITS g.met.T.BitBlock.wide_law c.self.inside.len
      c.self.inside.vec.items c.self.invariant (ap (λ v. v.bits) c.self.view_is)
      c.args.range.start (c.args.range.end - c.args.range.start)
      (omega (arith, c.requires.order, c.requires.inside)),
  ap (λ xs. length xs * g.T.BitBlock.BITS) c.as_mut_slice.ensures.value,
)

pub invariant_of-self : goal.invariant_of-self
invariant_of-self g c = (written g (goal.at.invariant_of-self g c).After-write_bits).canonical

pub returns-clause-each : goal.returns-clause-each
returns-clause-each g c = (written g (goal.at.returns-clause-each g c).After-write_bits).each

pub returns-clause-bits : goal.returns-clause-bits
returns-clause-bits g c =
    let w = g.T.BitBlock.BITS in
    let n = c.args.range.end - c.args.range.start in
    let one = g.T.BitBlock.number c.args.word ∷ [] in
    written-is (unpacking n one w) (returns-clause-each g c)
    (sym (take-unpacking n w one w (omega (arith, c.requires.few)))) (length-unpacking n one w)
    (omega (arith, c.requires.order, c.requires.inside))
