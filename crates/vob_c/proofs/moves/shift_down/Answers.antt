-- The bits are moved down, and those at the end become false.
use Rattle.std.proofs.Common.{arith}
use Rattle.vob_block.proofs.PackingLemmas.{length-unpacking}
use Rattle.vob.proofs.MovesLemmas.{IsMovedDown-by, moved_down}
use Rattle.vob_c.proofs.moves.shift_down.Goals as goal

pub returns : goal.returns
returns c =
    let long = length-unpacking c.args.bits c.args.words.now 64 in record {
      canonical = c.change_between.ensures.stores.canonical;
      bits = rw long at (moved_down c.args.n (IsMovedDown-by c.args.n c.min-by.result _ _
          (omega (arith, long, c.min-by.ensures)) (omega (arith, long))
          (omega arith) c.move_between.ensures.each c.change_between.ensures.each));
    }
