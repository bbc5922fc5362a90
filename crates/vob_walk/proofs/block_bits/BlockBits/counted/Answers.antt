-- Where an index is left, the first one is no greater than the greatest.
use Rattle.std.proofs.Common.{mod-eq_of_lt, arith}
use Rattle.vob_walk.proofs.BlockBitsLemmas.{some_left, first_there}
use Rattle.vob_walk.proofs.block_bits.BlockBits.counted.Goals as goal

pub invariant_of-result : goal.invariant_of-result
invariant_of-result g c = record {
  bits = c.requires.bits;
  count = c.requires.count;
  first = λ left.
      let n = c.zeros_low.result in
      let first = first_there _ c.args.at _ _ c.zeros_low.ensures
      (some_left c.requires.count left) in
      (n, c.zeros_low.ensures, mod-eq_of_lt (omega (arith, c.requires.bits.fits n first.0 first.1)));
}
