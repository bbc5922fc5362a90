-- The words hold the bits of the bytes so far.
use Rattle.std.proofs.Common.{◌≡◌, ℕ, ◌*◌, ◌<◌, length}
use Rattle.vob_block.specs.Packing.{bit_at}
use Rattle.vob_c.specs.Bytes.{byte_bit}
use Rattle.vob_c.proofs.bytes.load_bytes.Given as goal

abbrev pub invariant-loop-k : goal.invariant-loop-k
invariant-loop-k l = record {
  long : length l.words ≡ length l.fn.words;
  each : (i : ℕ) → i < 8 * l.k → i < l.bits → bit_at l.words 64 i ≡ byte_bit l.most_first l.bytes i;
}
