-- The three reversals put each bit where it belongs.
use Rattle.std.proofs.Common.{sym, arith}
use Rattle.vob_block.proofs.PackingLemmas.{length-unpacking}
use Rattle.vob.proofs.TurnsLemmas.{rotated-by}
use Rattle.vob_c.proofs.moves.rotate_by.Goals as goal

pub returns : goal.returns
returns c =
    let long = length-unpacking c.args.bits c.args.words.now 64 in record {
      canonical = c.reverse_between-3.ensures.canonical;
      bits = rotated-by c.args.n c.args.bits (omega (arith, long, c.requires.inside)) (sym long)
          c.reverse_between.ensures.each c.reverse_between-2.ensures.each
          c.reverse_between-3.ensures.each;
    }
