-- By the lemma on two others combined, at the clauses of the way to combine.
use Rattle.std.proofs.Common.{◌≡◌, ◌⊎◌, ◌<◌, ◌||◌, ◌++◌, List, Bool, true, subst, sym, ap, map, length, take, drop, ◌∙◌}
use Rattle.std.proofs.lemmas.List.{take_at}
use Rattle.vob_block.specs.Pointwise.{pointwise}
use Rattle.vob_block.proofs.PointwiseLemmas.{length-pointwise}
use Rattle.vob.specs.Bits.{count_of}
use Rattle.vob.proofs.BitsLemmas.{GainsBits-by, or_more}
use Rattle.vob.proofs.CombineLemmas.{HasCombined, added_here, as_many}
use Rattle.vob.proofs.vob.Vob.or_combine.Given as given
use Rattle.vob.proofs.vob.Vob.or_combine.Goals as goal
use Rattle.vob.proofs.vob.Vob.or_combine.Goals.{After-or_combined}

added : (g : given.Over) (c : After-or_combined g)
    → HasCombined g.T.BitBlock.BITS c.self.inside.len ◌||◌ c.args.self.now.bits
    (pointwise g.C.Combine.of_bits c.args.first.now.bits c.args.second.now.bits)
    c.or_combined.result (map g.T.BitBlock.number (take c.self.inside.vec.len
    (c.or_combined.new.own ++ drop (length c.or_combined.new.own) c.self.inside.vec.items)))
added g c = added_here g.T.BitBlock.number g.T.BitBlock.of_bits _ g.met.T.BitBlock.wide_law
    g.met.T.BitBlock.of_bits_number_law _ _ _ _ _ c.self.invariant (ap (λ v. v.bits) c.self.view_is)
    c.requires.first c.requires.second g.C.Combine.of_bits c.requires.none c.or_combined.result
    c.as_mut_slice.ensures.value (take_at c.or_combined.new.own _ c.self.inside.vec.len
    (c.or_combined.auto.own ∙ c.as_mut_slice.ensures.len)) _ _ c.blocks-2.ensures.blocks
    c.blocks-3.ensures.blocks c.or_combined.ensures

pub or_combined-requires-clause-first : goal.or_combined-requires-clause-first
or_combined-requires-clause-first g c = ap length c.as_mut_slice.ensures.value
    ∙ as_many g.T.BitBlock.number _ g.met.T.BitBlock.wide_law _ _ _ _ _ c.self.invariant
    (ap (λ v. v.bits) c.self.view_is) c.requires.first c.blocks-2.ensures.blocks

pub or_combined-requires-clause-second : goal.or_combined-requires-clause-second
or_combined-requires-clause-second g c = ap length c.as_mut_slice.ensures.value
    ∙ as_many g.T.BitBlock.number _ g.met.T.BitBlock.wide_law _ _ _ _ _ c.self.invariant
    (ap (λ v. v.bits) c.self.view_is) c.requires.second c.blocks-3.ensures.blocks

pub invariant_of-self : goal.invariant_of-self
invariant_of-self g c = (added g (goal.at.invariant_of-self g c).After-or_combined).canonical

pub returns-clause-bits : goal.returns-clause-bits
returns-clause-bits g c = (added g (goal.at.returns-clause-bits g c).After-or_combined).stored

pub returns-clause-each : goal.returns-clause-each
returns-clause-each g c = (added g (goal.at.returns-clause-each g c).After-or_combined).each

pub returns-clause-changed : goal.returns-clause-changed
returns-clause-changed g c = (added g (goal.at.returns-clause-changed g c).After-or_combined).flag

pub returns-clause-more : goal.returns-clause-more
returns-clause-more g c =
    let bits = c.args.self.now.bits in
    let firsts = c.args.first.now.bits in
    let seconds = c.args.second.now.bits in
    let others = pointwise g.C.Combine.of_bits firsts seconds in
    let both = pointwise ◌||◌ bits others in
    let long = length-pointwise g.C.Combine.of_bits firsts seconds
    (sym c.requires.first ∙ c.requires.second) in
    GainsBits-by _ _ _ (returns-clause-changed g c)
    (subst (λ (after : List Bool). (after ≡ bits) ⊎ (count_of true bits < count_of true after))
    {x = both} (sym {b = both} (returns-clause-bits g c))
    (or_more bits others (c.requires.first ∙ sym long)))
