-- A range within the length holds as many bits as it has indices.
use Rattle.std.proofs.Common.{arith, inl}
use Rattle.vob.proofs.BitsLemmas.{length-bits_within}
use Rattle.vob_tests.proofs.tests.moves.copy.Goals as goal

pub copy_within-requires : goal.copy_within-requires
copy_within-requires c =
    let few = length-bits_within c.args.vob.now.bits c.args.start c.args.end
    c.if-start-end.true (omega (arith, c.if-end-len.true, c.len-len.ensures.len)) in
    record {
      fits = inl (
        tt,
        omega (arith, few, c.if-at-len.true, c.if-end-start.true, c.len-len.ensures.len),
      );
    }
