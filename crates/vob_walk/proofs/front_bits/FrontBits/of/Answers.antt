-- A block whose places are all true is a run, and a length is behind it.
use Rattle.std.specs.List.{range_with_len}
use Rattle.std.proofs.Common.{◌++◌, ◌∙◌, ap, sym, arith}
use Rattle.vob_walk.proofs.BlockBitsLemmas.{full-below}
use Rattle.vob_walk.proofs.FrontBitsLemmas.{range-full}
use Rattle.vob_walk.proofs.front_bits.FrontBits.of.Goals as goal

pub invariant_of-t-9 : goal.invariant_of-t-9
invariant_of-t-9 g c =
    let number = g.T.BitBlock.number in
    let full = (g.met.T.BitBlock.equal_law c.args.word c.ONES.result).0 (sym c.eq.ensures ∙ c.if-eq.true)
    ∙ ap number c.ONES.ensures ∙ g.met.T.BitBlock.ones_number_law in
    record {
      within = omega (arith, c.BITS.ensures);
      begins = λ left. omega (arith, c.BITS.ensures);
      fits = omega (arith, c.BITS.ensures, full-below g.met.T.BitBlock.wide_law full c.requires);
      alone = λ left. c.none.ensures;
    }

pub returns-then-eq : goal.returns-then-eq
returns-then-eq g c =
    let number = g.T.BitBlock.number in
    ap (λ xs. xs ++ range_with_len c.args.at c.BITS.result) c.none.ensures
    ∙ ap (range_with_len c.args.at) c.BITS.ensures
    ∙ range-full g.T.BitBlock.BITS c.args.at (number c.args.word)
    ((g.met.T.BitBlock.equal_law c.args.word c.ONES.result).0 (sym c.eq.ensures ∙ c.if-eq.true)
    ∙ ap number c.ONES.ensures ∙ g.met.T.BitBlock.ones_number_law)
