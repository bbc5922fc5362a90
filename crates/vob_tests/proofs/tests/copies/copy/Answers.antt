-- A range within the other's length holds as many bits as it has indices.
use Rattle.std.proofs.Common.{arith, inl}
use Rattle.vob.proofs.BitsLemmas.{length-bits_within}
use Rattle.vob_tests.proofs.tests.copies.copy.Goals as goal

pub copy_range-requires : goal.copy_range-requires
copy_range-requires c =
    let few = length-bits_within c.args.other.now.bits c.args.start c.args.end
    c.if-start-end.true (omega (arith, c.if-end-others.true, c.len-others.ensures.len)) in
    record {
      fits = inl (
        tt,
        omega (arith, few, c.if-at-len.true, c.if-end-start.true, c.len-len.ensures.len),
      );
    }
