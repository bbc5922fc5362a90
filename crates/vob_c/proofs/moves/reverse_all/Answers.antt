-- All bits are those from index 0 to below the last one.
use Rattle.std.proofs.Common.{sym}
use Rattle.vob_block.proofs.PackingLemmas.{length-unpacking}
use Rattle.vob.proofs.TurnsLemmas.{reversed, IsReversed-all}
use Rattle.vob_c.proofs.moves.reverse_all.Goals as goal

pub returns : goal.returns
returns c = record {
  canonical = c.reverse_between.ensures.canonical;
  bits = reversed (IsReversed-all c.args.bits (sym (length-unpacking _ _ _))
      c.reverse_between.ensures.each);
}
