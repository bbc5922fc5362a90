-- The kernel's clauses on blocks are those on bits.
use Rattle.std.proofs.Common.{◌≤◌, ℕ, ◌+◌, ◌*◌, ◌-◌, ◌++◌, ap, ◌∙◌, length, map, take, drop, arith}
use Rattle.std.proofs.lemmas.List.{take_at}
use Rattle.vob_block.proofs.PackingLemmas.{length-unpacking}
use Rattle.vob.proofs.CopyLemmas.{HasCopied, copied_here}
use Rattle.vob.proofs.MovesLemmas.{own_blocks, own_inside}
use Rattle.vob.proofs.vob.Vob.move_between.Given as given
use Rattle.vob.proofs.vob.Vob.move_between.Goals as goal
use Rattle.vob.proofs.vob.Vob.move_between.Goals.{After-as_mut_slice, After-move_bits}

inside : (g : given.Over) (c : After-as_mut_slice g) (at count : ℕ)
    → at + count ≤ length c.args.self.now.bits
    → at + count ≤ length c.as_mut_slice.result.now * g.T.BitBlock.BITS
inside g c at count fits =
    let fit = own_inside g.T.BitBlock.number _ g.met.T.BitBlock.wide_law _ _ c.self.invariant
    (ap (λ v. v.bits) c.self.view_is) at count fits in
    rw c.as_mut_slice.ensures.value fit

moved : (g : given.Over) (c : After-move_bits g)
    → HasCopied g.T.BitBlock.BITS c.self.inside.len c.args.at c.args.start
    (c.args.end - c.args.start) c.args.self.now.bits c.args.self.now.bits
    (map g.T.BitBlock.number (take c.self.inside.vec.len
    (c.move_bits.new.own ++ drop (length c.move_bits.new.own) c.self.inside.vec.items)))
moved g c =
    let number = g.T.BitBlock.number in
    let wide = g.met.T.BitBlock.wide_law in
    let own = ap (λ v. v.bits) c.self.view_is in
    copied_here number _ wide _ _ _ _ _ _ _ _ c.self.invariant own
    (ap (map number) c.as_mut_slice.ensures.value ∙ own_blocks number _ wide _ _ c.self.invariant own)
    c.requires.fits c.as_mut_slice.ensures.value (take_at c.move_bits.new.own _ c.self.inside.vec.len
    (c.move_bits.auto.own ∙ c.as_mut_slice.ensures.len)) c.move_bits.auto.own
    c.move_bits.ensures.within c.move_bits.ensures.moved

pub move_bits-requires-clause-inside : goal.move_bits-requires-clause-inside
move_bits-requires-clause-inside g c = inside g
    (goal.at.move_bits-requires-clause-inside g c).After-as_mut_slice c.args.at
    (c.args.end - c.args.start) c.requires.fits

pub move_bits-requires-clause-source : goal.move_bits-requires-clause-source
move_bits-requires-clause-source g c = inside g
    (goal.at.move_bits-requires-clause-source g c).After-as_mut_slice c.args.start
    (c.args.end - c.args.start) (omega (arith, c.requires.order, c.requires.inside))

pub move_bits-requires-clause-end : goal.move_bits-requires-clause-end
move_bits-requires-clause-end g c = omega (
  arith,
  c.requires.fits,
  ap (λ v. length v.bits) c.self.view_is,
  length-unpacking c.self.inside.len (map g.T.BitBlock.number c.self.inside.vec.items)
      g.T.BitBlock.BITS,
  c.self.ranges,
)

pub invariant_of-self : goal.invariant_of-self
invariant_of-self g c = (moved g (goal.at.invariant_of-self g c).After-move_bits).canonical

pub returns-clause-each : goal.returns-clause-each
returns-clause-each g c = (moved g (goal.at.returns-clause-each g c).After-move_bits).each
