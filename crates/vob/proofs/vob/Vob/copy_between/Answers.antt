-- The kernel's clauses on blocks are those on bits.
use Rattle.std.proofs.Common.{◌-◌, ◌++◌, ap, ◌∙◌, length, map, take, drop, arith}
use Rattle.std.proofs.lemmas.List.{take_at}
use Rattle.vob.proofs.CopyLemmas.{HasCopied, copied_fits, copied_inside, copied_here}
use Rattle.vob.proofs.vob.Vob.copy_between.Given as given
use Rattle.vob.proofs.vob.Vob.copy_between.Goals as goal
use Rattle.vob.proofs.vob.Vob.copy_between.Goals.{After-copy_bits}

copied : (g : given.Over) (c : After-copy_bits g)
    → HasCopied g.T.BitBlock.BITS c.self.inside.len c.args.at c.args.start
    (c.args.end - c.args.start) c.args.self.now.bits c.args.other.now.bits
    (map g.T.BitBlock.number (take c.self.inside.vec.len
    (c.copy_bits.new.own ++ drop (length c.copy_bits.new.own) c.self.inside.vec.items)))
copied g c = copied_here g.T.BitBlock.number _ g.met.T.BitBlock.wide_law _ _ _ _ _ _ _ _
    c.self.invariant (ap (λ v. v.bits) c.self.view_is) c.blocks-2.ensures.blocks c.requires.fits
    c.as_mut_slice.ensures.value (take_at c.copy_bits.new.own _ c.self.inside.vec.len
    (c.copy_bits.auto.own ∙ c.as_mut_slice.ensures.len)) c.copy_bits.auto.own
    c.copy_bits.ensures.within c.copy_bits.ensures.copied

pub copy_bits-requires-clause-inside : goal.copy_bits-requires-clause-inside
copy_bits-requires-clause-inside g c = rw c.as_mut_slice.ensures.value (copied_inside
    g.T.BitBlock.number _ g.met.T.BitBlock.wide_law _ _ c.args.start _ _ _ _ _ c.self.invariant
    (ap (λ v. v.bits) c.self.view_is) c.blocks-2.ensures.blocks c.requires.fits)

pub copy_bits-requires-clause-own : goal.copy_bits-requires-clause-own
copy_bits-requires-clause-own g c =
    let inside = copied_fits g.T.BitBlock.number _ g.met.T.BitBlock.wide_law _ _ c.args.start _ _ _ _ _
    c.self.invariant (ap (λ v. v.bits) c.self.view_is) c.blocks-2.ensures.blocks c.requires.fits in
    omega (arith, inside, c.self.ranges)

pub invariant_of-self : goal.invariant_of-self
invariant_of-self g c = (copied g (goal.at.invariant_of-self g c).After-copy_bits).canonical

pub returns-clause-each : goal.returns-clause-each
returns-clause-each g c = (copied g (goal.at.returns-clause-each g c).After-copy_bits).each
