-- The kernel's clauses on blocks are those on bits.
use Rattle.std.proofs.Common.{◌*◌, ap, ◌∙◌, length, drop, arith}
use Rattle.std.proofs.lemmas.List.{take_at}
use Rattle.vob.proofs.TurnsLemmas.{turned_inside, reversed_canonical, reversed_between}
use Rattle.vob.proofs.vob.Vob.reverse_between.Goals as goal

pub reverse_bits_between-requires-clause-halvable : goal.reverse_bits_between-requires-clause-halvable
reverse_bits_between-requires-clause-halvable g c = g.met.T.BitBlock.power_law

pub reverse_bits_between-requires-clause-inside : goal.reverse_bits_between-requires-clause-inside
reverse_bits_between-requires-clause-inside g c =
    let w = g.T.BitBlock.BITS in
    let inside = turned_inside g.T.BitBlock.number w g.met.T.BitBlock.wide_law c.self.inside.len
    c.args.start c.args.end c.self.inside.vec.items c.args.self.now.bits c.self.invariant
    (ap (λ v. v.bits) c.self.view_is) c.requires.inside in
    omega (arith, inside, ap (λ xs. length xs * w) c.as_mut_slice.ensures.value)

pub invariant_of-self : goal.invariant_of-self
invariant_of-self g c =
    let items = c.self.inside.vec.items in
    let now = c.reverse_bits_between.new.own in
    let left = take_at now (drop (length now) items) c.self.inside.vec.len
    (c.reverse_bits_between.auto.own ∙ c.as_mut_slice.ensures.len) in
    reversed_canonical g.T.BitBlock.number g.T.BitBlock.BITS g.met.T.BitBlock.wide_law
    c.self.inside.len c.args.start c.args.end items c.args.self.now.bits c.self.invariant
    (ap (λ v. v.bits) c.self.view_is) c.requires.inside c.as_mut_slice.ensures.value left
    c.reverse_bits_between.auto.own c.reverse_bits_between.ensures.within
    c.reverse_bits_between.ensures.reversed

pub returns-clause-each : goal.returns-clause-each
returns-clause-each g c =
    let items = c.self.inside.vec.items in
    let now = c.reverse_bits_between.new.own in
    let left = take_at now (drop (length now) items) c.self.inside.vec.len
    (c.reverse_bits_between.auto.own ∙ c.as_mut_slice.ensures.len) in
    reversed_between g.T.BitBlock.number g.T.BitBlock.BITS g.met.T.BitBlock.wide_law
    c.self.inside.len c.args.start c.args.end items c.args.self.now.bits c.self.invariant
    (ap (λ v. v.bits) c.self.view_is) c.requires.inside c.as_mut_slice.ensures.value left
    c.reverse_bits_between.auto.own c.reverse_bits_between.ensures.within
    c.reverse_bits_between.ensures.reversed
