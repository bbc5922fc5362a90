-- The digits of the blocks so far are written, and the bits of the others are left.
use Rattle.std.proofs.Common.{◌≡◌, ◌-◌, ◌*◌, map}
use Rattle.std.specs.Fmt.{HasWritten, IsPlainFormatter}
use Rattle.vob_block.specs.Digits.{digit}
use Rattle.vob_block.specs.Packing.{unpacking}
use Rattle.vob_store.proofs.text.write_digits.Given as goal

abbrev pub invariant-loop-block : goal.invariant-loop-block
invariant-loop-block g l = record {
  left : l.left ≡ l.len - l.block-index * g.T.BitBlock.BITS;
  written : IsPlainFormatter l.initial.f → HasWritten g.W.Write.write_str_gives l.initial.f
      (map digit (unpacking (l.len - l.left) (map g.T.BitBlock.number l.fn.blocks) g.T.BitBlock.BITS)) l.f;
}
