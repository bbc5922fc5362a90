-- The bits are moved up, and those below become false.
use Rattle.std.proofs.Common.{arith}
use Rattle.vob_block.proofs.PackingLemmas.{length-unpacking}
use Rattle.vob.proofs.MovesLemmas.{IsMovedUp-by, moved_up}
use Rattle.vob_c.proofs.moves.shift_up.Goals as goal

pub returns : goal.returns
returns c =
    let long = length-unpacking c.args.bits c.args.words.now 64 in record {
      canonical = c.change_between.ensures.stores.canonical;
      bits = rw long at (moved_up c.args.n (IsMovedUp-by c.args.n c.min-by.result _
          (omega (arith, long, c.min-by.ensures)) (omega (arith, long))
          c.move_between.ensures.each c.change_between.ensures.each));
    }
