-- The number of bits is the length of their list, and no bits stay.
use Rattle.std.proofs.Common.{arith}
use Rattle.vob_block.proofs.PackingLemmas.{length-unpacking}
use Rattle.vob_c.proofs.MovesLemmas.{rotated_nothing}
use Rattle.vob_c.proofs.moves.rotate_up.Goals as goal

pub returns-then-bits-gt0 : goal.returns-then-bits-gt0
returns-then-bits-gt0 c = record {
  canonical = c.rotate_by.ensures.canonical;
  bits = rw (length-unpacking c.args.bits c.args.words.now 64) c.rotate_by.ensures.bits;
}

pub returns-else-bits-gt0 : goal.returns-else-bits-gt0
returns-else-bits-gt0 c = record {
  canonical = c.requires;
  bits = rotated_nothing _ _ (omega (
    arith,
    length-unpacking c.args.bits c.args.words.now 64,
    c.if-bits-gt0.false,
  ));
}
