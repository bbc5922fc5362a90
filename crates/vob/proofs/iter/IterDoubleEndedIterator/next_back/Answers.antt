-- The bit below the end is the last that is left.
use Rattle.std.proofs.Common.{◌≡◌, ◌<◌, ◌-◌, ◌∙◌, sym, ap, arith, length, map}
use Rattle.vob.proofs.RestLemmas.{length-bits_between, bits_between-nothing, bits_between-last}
use Rattle.vob.proofs.iter.IterDoubleEndedIterator.next_back.Goals as goal

pub returns-then-self-clause-steps : goal.returns-then-self-clause-steps
returns-then-self-clause-steps g c =
    let none = sym c.self.view_is ∙ bits_between-nothing _ _ _ _
    (omega (arith, c.if-self.true)) in (none, none)

pub returns-clause-steps : goal.returns-clause-steps
returns-clause-steps g c =
    let more : c.self.inside.next < c.self.inside.end = omega arith in
    rw (← c.self.view_is, c.block_bit.ensures)
    (bits_between-last c.self.inside.next c.self.inside.end _ _ more)

pub returns-clause-goes : goal.returns-clause-goes
returns-clause-goes g c =
    let before : length c.args.self.now ≡ c.self.inside.end - c.self.inside.next =
    ap length (sym c.self.view_is) ∙ length-bits_between _ _ _ _ in
    let after = length-bits_between c.self.inside.next (c.self.inside.end - 1)
    (map g.T.BitBlock.number c.self.inside.blocks.now) g.T.BitBlock.BITS in
    record {
      on = λ finite. (tt, finite, omega (arith, before, after));
      keeps = tt;
      rests =
          λ _. tt;
    }
