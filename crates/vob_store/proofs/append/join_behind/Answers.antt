-- The first used places are those of a block moved up, which the others follow.
use Rattle.std.proofs.Common.{◌≡◌, ◌+◌, ◌-◌, ◌<◌, length, arith, map, sym}
use Rattle.vob_store.proofs.BuildLemmas.{AreBuilt-same, number_indexed}
use Rattle.vob_store.proofs.JoinLemmas.{joined-none, shifted-is_joined}
use Rattle.vob_store.proofs.append.join_behind.Goals as goal

pub returns-then-used-eq0-clause-built : goal.returns-then-used-eq0-clause-built
returns-then-used-eq0-clause-built g c =
    let number = g.T.BitBlock.number in
    rw c.if-used-eq0.true (AreBuilt-same c.join_whole.ensures.built (λ i. sym (joined-none
    g.T.BitBlock.BITS (map number c.args.own.now) (map number c.args.other.now.items) i)))

pub returns-else-used-eq0-clause-built : goal.returns-else-used-eq0-clause-built
returns-else-used-eq0-clause-built g c =
    let number = g.T.BitBlock.number in
    let w = g.T.BitBlock.BITS in
    let some : 0 < length c.args.own.now = c.requires.some c.if-used-eq0.false in
    let first = number_indexed number c.args.own.now 0 c.index-own-0.result some c.index-own-0.is in
    let from = c.BITS.result - c.args.used in
    let rest : from + c.args.used ≡ w = omega (arith, c.BITS.ensures, c.requires.below) in
    AreBuilt-same c.join_shifted.ensures.built (shifted-is_joined w c.args.used from
    (number c.up-first.result) (map number c.args.own.now) (map number c.args.other.now.items)
    g.met.T.BitBlock.wide_law rest (omega (arith, c.BITS.ensures, c.requires.below))
    (rw first at c.up-first.ensures.places))
