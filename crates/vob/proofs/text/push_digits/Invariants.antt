-- The bits are those of the digits so far.
use Rattle.std.proofs.Common.{◌≡◌, ◌≤◌, map, take}
use Rattle.vob_block.specs.Digits.{digit}
use Rattle.vob.proofs.text.push_digits.Given as goal

abbrev pub invariant-loop-byte : goal.invariant-loop-byte
invariant-loop-byte g l = record {
  bits : map digit l.vob.bits ≡ take l.byte-index l.digits;
  capacity : l.fn.vob.capacity ≤ l.vob.capacity;
}
