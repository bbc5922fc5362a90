-- By the lemma on storage combined, at the clauses of the way to combine.
use Rattle.std.proofs.Common.{ap, sym, map, length, take, drop, ◌++◌, ◌∙◌}
use Rattle.std.proofs.lemmas.List.{take_at}
use Rattle.vob_block.specs.Packing.{unpacking}
use Rattle.vob_block.proofs.PackingLemmas.{length-unpacking, packing-unpacking}
use Rattle.vob.proofs.CombineLemmas.{HasCombined, as_many, combined_here}
use Rattle.vob.proofs.vob.Vob.combine_blocks.Given as given
use Rattle.vob.proofs.vob.Vob.combine_blocks.Goals as goal
use Rattle.vob.proofs.vob.Vob.combine_blocks.Goals.{After-combine_into}

after : (g : given.Over) (c : After-combine_into g)
    → HasCombined g.T.BitBlock.BITS c.self.inside.len g.C.Combine.of_bits c.args.self.now.bits
    (unpacking (length c.args.self.now.bits) (map g.T.BitBlock.number c.args.other.now.items) g.T.BitBlock.BITS)
    c.combine_into.result (map g.T.BitBlock.number (take c.self.inside.vec.len
    (c.combine_into.new.own ++ drop (length c.combine_into.new.own) c.self.inside.vec.items)))
after g c =
    let w = g.T.BitBlock.BITS in
    let len = length c.args.self.now.bits in
    let blocks = map g.T.BitBlock.number c.args.other.now.items in
    combined_here g.T.BitBlock.number w g.met.T.BitBlock.wide_law
    c.self.inside.len c.self.inside.vec.items c.args.other.now.items c.args.self.now.bits
    (unpacking len blocks w) c.self.invariant (ap (λ v. v.bits) c.self.view_is)
    (sym (length-unpacking len blocks w)) (sym (packing-unpacking w g.met.T.BitBlock.wide_law len blocks c.requires.other))
    g.C.Combine.of_bits c.requires.none c.combine_into.result
    c.as_mut_slice.ensures.value (take_at c.combine_into.new.own
    (drop (length c.combine_into.new.own) c.self.inside.vec.items) c.self.inside.vec.len
    (c.combine_into.auto.own ∙ c.as_mut_slice.ensures.len)) c.combine_into.ensures.combined

pub combine_into-requires : goal.combine_into-requires
combine_into-requires g c =
    let w = g.T.BitBlock.BITS in
    let len = length c.args.self.now.bits in
    let blocks = map g.T.BitBlock.number c.args.other.now.items in
    ap length c.as_mut_slice.ensures.value ∙ as_many g.T.BitBlock.number w
    g.met.T.BitBlock.wide_law c.self.inside.len c.self.inside.vec.items c.args.other.now.items
    c.args.self.now.bits (unpacking len blocks w) c.self.invariant (ap (λ v. v.bits) c.self.view_is)
    (sym (length-unpacking len blocks w)) (sym (packing-unpacking w g.met.T.BitBlock.wide_law len blocks c.requires.other))

pub invariant_of-self : goal.invariant_of-self
invariant_of-self g c = (after g (goal.at.invariant_of-self g c).After-combine_into).canonical

pub returns : goal.returns
returns g c = let now = after g (goal.at.returns g c).After-combine_into in record {
  bits = now.stored;
  each = now.each;
  changed = now.flag;
  capacity = ap (λ v. v.capacity) c.self.view_is;
  read = c.combine_into.ensures.read;
}
