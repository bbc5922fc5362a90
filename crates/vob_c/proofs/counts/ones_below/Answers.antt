-- The words are the packing of the bits, and those below the index are counted in them.
use Rattle.std.proofs.Common.{ap, arith, length}
use Rattle.vob_block.proofs.NeedLemmas.{need-le-need}
use Rattle.vob_block.proofs.PackingLemmas.{length-unpacking}
use Rattle.vob.proofs.SetsLemmas.{rank_is}
use Rattle.vob_c.proofs.FoundLemmas.{words_packed}
use Rattle.vob_c.proofs.counts.ones_below.Goals as goal

pub count_ones_in-requires-clause-enough : goal.count_ones_in-requires-clause-enough
count_ones_in-requires-clause-enough c = omega (
  arith,
  need-le-need 64 (omega arith) c.min.result c.args.bits (omega (arith, c.min.ensures)),
  c.requires.count,
  ap length c.new.ensures.items,
)

pub returns : goal.returns
returns c = rank_is 64 (omega arith) _ c.args.index c.min.result _ _
    (omega (arith, c.min.ensures, length-unpacking c.args.bits c.args.words.now 64))
    (words_packed _ _ _ c.requires c.new.ensures.items) c.count_ones_in.ensures.ones
